-- A list of tokens has a tree or a fault, never both, and one of either.
use Rattle.std.proofs.Common.{◌≡◌, ◌⊎◌, inl, inr, ℕ, suc, ◌-◌, ◌≤◌, List, [], ◌∷◌, ◌++◌, length, drop, length-append, refl, sym, ◌∙◌, ap, subst, arith}
use Rattle.std.proofs.Math.Seq.{drop-append_seam}
use Rattle.cx_base.specs.declared.diag.Diag.{Diag}
use Rattle.cx_base.specs.declared.rule.Rule.{Rule}
use Rattle.cx_base.specs.declared.rule.Rule.TheVariants.{Syntax}
use Rattle.cx_grammar.specs.Answers.{FaultAt}
use Rattle.cx_grammar.specs.Exact.{Outcome, done, stop}
use Rattle.cx_grammar.proofs.Answered.{read_whole, read_more, read_stopped}
use Rattle.cx_syntax.specs.declared.lexeme.Lexeme.{Lexeme}
use Rattle.cx_syntax_decls.specs.Symbols as symbols
use Rattle.cx_syntax_decls.proofs.Knots.{exactly_unit}
use Rattle.cx_token_defs.specs.declared.Token.{Token}
use Rattle.cx_tree.specs.declared.decls.Unit.{Unit as Tree}
use Rattle.cx_unit_parser.specs.Parsing.{EndsInEnd, IsTree, IsFault, seen}
use Rattle.cx_unit_parser.specs.Parts.{Placed, PlacedAt}
use Rattle.cx_unit_parser.proofs.Ends.{has_token}
use Rattle.cx_unit_parser.proofs.Faults.{one_place, one_token, same_rule}

pub never_both : (tokens : List Token) (tree : Tree) (fault : Diag) → IsTree tokens tree → IsFault tokens fault → ⊥
never_both tokens tree fault s f = f.at.none tree s.spelled

pub one_tree : (tokens : List Token) (a b : Tree) → IsTree tokens a → IsTree tokens b → a ≡ b
one_tree tokens a b s t = t.alone 512 a s.spelled

-- the fault that has a token
pub told : (tokens : List Token) (rule : Rule) (left : ℕ) (rest : List Lexeme) → EndsInEnd tokens → (f : FaultAt symbols.unit 512 (seen tokens) rule left) → f.rest ≡ rest → (d : Diag) × IsFault tokens d
told tokens rule left [] e f r = let n = has_token tokens rule left e f in let z = ap length r in let p = f.size in absurd (omega arith)
told tokens rule left (t ∷ ts) e f r = let size : left ≡ length (t ∷ ts) = sym f.size ∙ ap length r in (
  record { span = t.span; rule = rule; frames = [] },
  record {
    token = t;
    behind = ts;
    at = record { before = f.before; rest = f.rest; cut = f.cut; size = f.size ∙ size; begun = f.begun; fault = f.fault; none = f.none };
    stands = r;
    placed = refl;
    bare = refl;
  },
)

placed_at : (tokens : List Token) (rule : Rule) (left : ℕ) (rest : List Lexeme) (fault : Diag) → EndsInEnd tokens → (f : FaultAt symbols.unit 512 (seen tokens) rule left) → f.rest ≡ rest → PlacedAt rest rule fault → IsFault tokens fault
unfolding told
placed_at tokens rule left [] fault e f r p = absurd p
placed_at tokens rule left (t ∷ ts) fault e f r p = subst (IsFault tokens) (sym p) (told tokens rule left (t ∷ ts) e f r).1

behind_is : (before rest : List Lexeme) (left : ℕ) → length rest ≡ left → drop (length (before ++ rest) - left) (before ++ rest) ≡ rest
behind_is before rest left size = let n = length-append before rest in let at : length (before ++ rest) - left ≡ length before = omega arith in ap (λ k. drop k (before ++ rest)) at ∙ drop-append_seam before rest

-- from the fault on there are at least one token and at most all
pub in_range : (tokens : List Token) (lexemes : List Lexeme) (rule : Rule) (left : ℕ) → EndsInEnd tokens → lexemes ≡ seen tokens → FaultAt symbols.unit 512 lexemes rule left → (1 ≤ left) × (left ≤ length lexemes)
in_range tokens lexemes rule left e is f = let P : List Lexeme → Type 0 = λ l. FaultAt symbols.unit 512 l rule left in
    (has_token tokens rule left e (subst P is f), let a = ap length f.cut in let c = length-append f.before f.rest in let p = f.size in omega arith)

-- what the fault of the parser is told as
pub explained : (tokens : List Token) (lexemes : List Lexeme) (rule : Rule) (left : ℕ) (fault : Diag) → EndsInEnd tokens → lexemes ≡ seen tokens → FaultAt symbols.unit 512 lexemes rule left → Placed lexemes rule left fault → IsFault tokens fault
explained tokens lexemes rule left fault e is f p = let P : List Lexeme → Type 0 = λ l. FaultAt symbols.unit 512 l rule left in let g = subst P is f in
    let Q : List Lexeme → Type 0 = λ l. PlacedAt (drop (length l - left) l) rule fault in let q : PlacedAt (drop (length (g.before ++ g.rest) - left) (g.before ++ g.rest)) rule fault = subst Q (is ∙ g.cut) p in
    let R : List Lexeme → Type 0 = λ l. PlacedAt l rule fault in placed_at tokens rule left g.rest fault e g refl (subst R (behind_is g.before g.rest left g.size) q)

of_fault : (tokens : List Token) (rule : Rule) (left : ℕ) → EndsInEnd tokens → FaultAt symbols.unit 512 (seen tokens) rule left → ((tree : Tree) × IsTree tokens tree) ⊎ ((d : Diag) × IsFault tokens d)
of_fault tokens rule left e f = inr (told tokens rule left f.rest e f refl)

read : (tokens : List Token) (o : Outcome Lexeme Tree) → EndsInEnd tokens → symbols.units 512 (seen tokens) ≡ o → ((tree : Tree) × IsTree tokens tree) ⊎ ((d : Diag) × IsFault tokens d)
read tokens (done tree []) e r = inl (tree, read_whole symbols.unit 512 (exactly_unit 512) (seen tokens) tree [] r refl)
read tokens (done tree (t ∷ ts)) e r = of_fault tokens Syntax (length (t ∷ ts)) e (read_more symbols.unit 512 (exactly_unit 512) (seen tokens) tree (t ∷ ts) r (λ z. let n : length (t ∷ ts) ≡ suc (length ts) = refl in absurd (omega arith)))
read tokens (stop rule left) e r = of_fault tokens rule left e (read_stopped symbols.unit 512 (exactly_unit 512) (seen tokens) rule left r)

pub either : (tokens : List Token) → EndsInEnd tokens → ((tree : Tree) × IsTree tokens tree) ⊎ ((d : Diag) × IsFault tokens d)
either tokens e = read tokens (symbols.units 512 (seen tokens)) e refl

same_diag : (a b : Diag) → a.span ≡ b.span → a.rule ≡ b.rule → a.frames ≡ b.frames → a ≡ b
same_diag a b s r f = λ i. record { span = s i; rule = r i; frames = f i }

pub one_fault : (tokens : List Token) (a b : Diag) → IsFault tokens a → IsFault tokens b → a ≡ b
one_fault tokens a b f g = let n = one_place symbols.unit 512 (seen tokens) a.rule b.rule (length (f.token ∷ f.behind)) (length (g.token ∷ g.behind)) f.at g.at f.token g.token f.behind g.behind f.stands g.stands in
    let rests : f.token ∷ f.behind ≡ g.token ∷ g.behind = sym f.stands ∙ (one_token symbols.unit 512 (seen tokens) a.rule b.rule (length (f.token ∷ f.behind)) (length (g.token ∷ g.behind)) f.at g.at n ∙ g.stands) in
    let token : f.token ≡ g.token = cc in
    same_diag a b (f.placed ∙ (ap (λ t. t.span) token ∙ sym g.placed)) (same_rule symbols.unit 512 (seen tokens) a.rule b.rule (length (f.token ∷ f.behind)) (length (g.token ∷ g.behind)) f.at g.at f.token f.behind n f.stands) (f.bare ∙ sym g.bare)
