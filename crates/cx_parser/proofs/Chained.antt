-- The turns of a chain as the code gathers them.
use Rattle.std.proofs.Common.{◌≡◌, ℕ, zero, suc, ◌≤◌, ◌-◌, arith, Bool, true, false, List, [], ◌∷◌, ◌++◌, map, refl, sym, ◌∙◌, ap, append_assoc}
use Rattle.std.proofs.lemmas.List.{append-nil}
use Rattle.cx_base.specs.declared.rule.Rule.{Rule}
use Rattle.cx_base.specs.declared.diag.Span.{Span}
use Rattle.cx_tree.specs.declared.exprs.Operation.{Operation}
use Rattle.cx_tree.specs.declared.exprs.Expr.{Expr}
use Rattle.cx_tree.specs.declared.operators.BinaryOp.{BinaryOp}
use Rattle.cx_syntax.specs.declared.lexeme.Lexeme.{Lexeme}
use Rattle.cx_grammar.specs.Exact.{Outcome, done, stop}
use Rattle.cx_grammar.specs.Reading.{made, sees, token, taken, ◌>>=◌}
use Rattle.cx_grammar.specs.Reads.{Reads}
use Rattle.cx_syntax.specs.Values.{Turn, operation_of, last_open, ends_open, pick, binary_of, Operand, chained, span_of}
use Rattle.cx_syntax.specs.Sets.{allowed}
use Rattle.cx_syntax.specs.Readers as r
use Rattle.cx_parser.specs.Parts as parts
use Rattle.cx_parser.proofs.Links.{link_read, link_stopped, links_end}
use Rattle.cx_parser.proofs.RuleLengths.{short_turn, kept}

-- what was gathered, and what the turns that are left give
abbrev pub gathered : List Operation → Bool → List Turn → List Operation × Bool
gathered front b us = (front ++ map operation_of us, last_open b us)

made_twice : (front : List Operation) (b : Bool) (u : Turn) (o : Outcome Lexeme (List Turn)) → made (gathered front b) (made (λ us. u ∷ us) o) ≡ made (gathered (front ++ operation_of u ∷ []) (ends_open u)) o
made_twice front b u (done us rest) = ap (λ l. done (l, last_open (ends_open u) us) rest) (sym (append_assoc front (operation_of u ∷ []) (map operation_of us)))
made_twice front b u (stop rule left) = refl

module _ (n p : ℕ) where
  -- the turns that are left
  abbrev pub left_turns : Bool → List Lexeme → Outcome Lexeme (List Turn)
  left_turns b ts = r.turns (r.deeper n) p (r.chain (r.deeper n) p) b ts

  pub start : (b : Bool) (ts : List Lexeme) → made (gathered [] b) (left_turns b ts) ≡ parts.turned (r.deeper n) p b ts
  start b ts = refl

  pub turn_of : (b : Bool) (operator : BinaryOp) (operand : Expr) (open_new : Bool) (ts mid rest : List Lexeme) → token (pick (allowed p b) binary_of) ts ≡ done operator mid → r.chain (r.deeper n) p mid ≡ done (operand, open_new) rest
      → r.turn (r.deeper n) p (r.chain (r.deeper n) p) b ts ≡ done (operator, (operand, open_new)) rest
  turn_of b operator operand open_new ts mid rest e f = ap (λ o. o >>= (λ v l. made (λ w. (v, w)) (r.chain (r.deeper n) p l))) e ∙ ap (made (λ w. (operator, w))) f

  pub turn_read : (front : List Operation) (b : Bool) (operator : BinaryOp) (operand : Expr) (open_new : Bool) (ts mid rest : List Lexeme) → sees (r.allowed_at (r.deeper n) p b) ts ≡ true
      → token (pick (allowed p b) binary_of) ts ≡ done operator mid → r.chain (r.deeper n) p mid ≡ done (operand, open_new) rest
      → made (gathered front b) (left_turns b ts) ≡ made (gathered (front ++ operation_of (operator, (operand, open_new)) ∷ []) open_new) (left_turns open_new rest)
  turn_read front b operator operand open_new ts mid rest s e f =
      ap (made (gathered front b)) (link_read (r.allowed_at (r.deeper n) p) (r.turn (r.deeper n) p (r.chain (r.deeper n) p)) ends_open (short_turn (r.deeper n) (kept n) p) b ts rest (operator, (operand, open_new)) s (turn_of b operator operand open_new ts mid rest e f))
      ∙ made_twice front b (operator, (operand, open_new)) (left_turns open_new rest)

  pub operator_stopped : (front : List Operation) (b : Bool) (ts : List Lexeme) (rule : Rule) (left : ℕ) → sees (r.allowed_at (r.deeper n) p b) ts ≡ true → token (pick (allowed p b) binary_of) ts ≡ stop rule left
      → made (gathered front b) (left_turns b ts) ≡ stop rule left
  operator_stopped front b ts rule left s e = ap (made (gathered front b)) (link_stopped (r.allowed_at (r.deeper n) p) (r.turn (r.deeper n) p (r.chain (r.deeper n) p)) ends_open (short_turn (r.deeper n) (kept n) p) b ts rule left s
      (ap (λ o. o >>= (λ v l. made (λ w. (v, w)) (r.chain (r.deeper n) p l))) e))

  pub operand_stopped : (front : List Operation) (b : Bool) (operator : BinaryOp) (ts mid : List Lexeme) (rule : Rule) (left : ℕ) → sees (r.allowed_at (r.deeper n) p b) ts ≡ true → token (pick (allowed p b) binary_of) ts ≡ done operator mid
      → r.chain (r.deeper n) p mid ≡ stop rule left → made (gathered front b) (left_turns b ts) ≡ stop rule left
  operand_stopped front b operator ts mid rule left s e f = ap (made (gathered front b)) (link_stopped (r.allowed_at (r.deeper n) p) (r.turn (r.deeper n) p (r.chain (r.deeper n) p)) ends_open (short_turn (r.deeper n) (kept n) p) b ts rule left s
      (ap (λ o. o >>= (λ v l. made (λ w. (v, w)) (r.chain (r.deeper n) p l))) e ∙ ap (made (λ w. (operator, w))) f))

  pub turns_end : (front : List Operation) (b : Bool) (ts : List Lexeme) → sees (r.allowed_at (r.deeper n) p b) ts ≡ false → made (gathered front b) (left_turns b ts) ≡ done (front, b) ts
  turns_end front b ts s = ap (made (gathered front b)) (links_end (r.allowed_at (r.deeper n) p) (r.turn (r.deeper n) p (r.chain (r.deeper n) p)) ends_open b ts s) ∙ ap (λ l. done (l, b) ts) (append-nil front)

-- ---- one level

-- a chain from what was gathered behind its first operand
abbrev pub finished : Operand → List Lexeme → Outcome Lexeme (List Operation × Bool) → Outcome Lexeme Operand
finished first ts (done found rest) = done (parts.chained_with first found (span_of (taken ts rest))) rest
finished first ts (stop rule left) = stop rule left

chained_same : (first : Operand) (us : List Turn) (s : Span) → chained ((first, us), s) ≡ parts.chained_with first (parts.operations first.1 us) s
chained_same first [] s = refl
chained_same first (u ∷ us) s = refl

finished_same : (first : Operand) (ts : List Lexeme) (o : Outcome Lexeme (List Turn)) → made chained (made (λ b. (first, b)) o >>= (λ v l. done (v, span_of (taken ts l)) l)) ≡ finished first ts (made (parts.operations first.1) o)
finished_same first ts (done us l) = ap (λ x. done x l) (chained_same first us (span_of (taken ts l)))
finished_same first ts (stop rule left) = refl

module _ (n : ℕ) where
  pub chain_none : (level : ℕ) (ts : List Lexeme) → level ≡ 0 → r.chain (r.deeper n) level ts ≡ r.cast (r.deeper n) ts
  unfolding r.chain
  chain_none zero ts e = refl
  chain_none (suc p) ts e = absurd (omega arith)

  chain_suc : (p : ℕ) (ts : List Lexeme) (o : Outcome Lexeme Operand) → r.chain (r.deeper n) p ts ≡ o → r.chain (r.deeper n) (suc p) ts ≡ made chained ((o >>= (λ a l. made (λ b. (a, b)) (r.turns (r.deeper n) p (r.chain (r.deeper n) p) a.1 l))) >>= (λ v l. done (v, span_of (taken ts l)) l))
  unfolding r.chain
  chain_suc p ts o e = ap (λ q. made chained ((q >>= (λ a l. made (λ b. (a, b)) (r.turns (r.deeper n) p (r.chain (r.deeper n) p) a.1 l))) >>= (λ v l. done (v, span_of (taken ts l)) l))) e

  pub chain_stopped : (level : ℕ) (ts : List Lexeme) (rule : Rule) (left : ℕ) → 1 ≤ level → r.chain (r.deeper n) (level - 1) ts ≡ stop rule left → r.chain (r.deeper n) level ts ≡ stop rule left
  chain_stopped zero ts rule left l e = absurd (omega arith)
  chain_stopped (suc p) ts rule left l e = chain_suc p ts (stop rule left) (ap (λ q. r.chain (r.deeper n) q ts) (let q : p ≡ suc p - 1 = omega arith in q) ∙ e)

  pub chain_is : (level : ℕ) (first : Operand) (ts mid : List Lexeme) → 1 ≤ level → r.chain (r.deeper n) (level - 1) ts ≡ done first mid
      → r.chain (r.deeper n) level ts ≡ finished first ts (parts.turned (r.deeper n) (level - 1) first.1 mid)
  chain_is zero first ts mid l e = absurd (omega arith)
  chain_is (suc p) first ts mid l e = let q : p ≡ suc p - 1 = omega arith in
      chain_suc p ts (done first mid) (ap (λ q. r.chain (r.deeper n) q ts) q ∙ e) ∙ (finished_same first ts (r.turns (r.deeper n) p (r.chain (r.deeper n) p) first.1 mid) ∙ ap (λ j. finished first ts (parts.turned (r.deeper n) j first.1 mid)) q)
