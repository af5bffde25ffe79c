-- The readers of chains of operators are exact, given that of casts ([expr.mul] to [expr.log.or]).
use Rattle.std.proofs.Common.{◌≡◌, ℕ, zero, suc, Bool, true, false, not, ◌&&◌, IsTrue, List, [], ◌∷◌, refl, sym, subst}
use Rattle.cx_grammar.specs.Exact.{Family, GoesOn}
use Rattle.cx_grammar.specs.Reading.{sees}
use Rattle.cx_grammar.proofs.Heads.{Heads, Apart, Sub, heads_both, heads_present, heads_elsewhere, blank_seen, or_left, or_right}
use Rattle.cx_grammar.proofs.Parts.{exact_present}
use Rattle.cx_grammar.proofs.Steps.{Exactly, exactly_token, exactly_made, exactly_next}
use Rattle.cx_syntax.specs.declared.lexeme.Lexeme.{Lexeme}
use Rattle.cx_base.specs.declared.diag.Span.{Span}
use Rattle.cx_syntax.specs.Classes.{same_class}
use Rattle.cx_syntax.specs.Linked.{links, flag_behind}
use Rattle.cx_syntax.specs.Sets.{operators, allowed, is_after_new}
use Rattle.cx_syntax.specs.Values.{span_of, binary_of, Operand, Turn, ends_open, chained}
use Rattle.cx_syntax.specs.Grammar as g
use Rattle.cx_syntax.specs.Readers as r
use Rattle.cx_syntax.proofs.Basics.{at, apart, heads_pick}
use Rattle.cx_syntax.proofs.Linked.{Follows, Turns, exactly_then_by, exactly_links, links_follow, links_follow_spelled, links_none}
use Rattle.cx_syntax.proofs.Valued.{exactly_spanned}
use Rattle.cx_syntax.specs.Goes.{goes_by, goes_operand}

-- ---- what goes on with an operand of a level is no operator of the next that may follow it

pub level_apart : (p : ℕ) (b : Bool) → Apart (at (goes_by p b)) (at (allowed p b))
unfolding same_class
level_apart zero true = apart (goes_by 0 true) (allowed 0 true) refl
level_apart zero false = apart (goes_by 0 false) (allowed 0 false) refl
level_apart (suc zero) true = apart (goes_by 1 true) (allowed 1 true) refl
level_apart (suc zero) false = apart (goes_by 1 false) (allowed 1 false) refl
level_apart (suc (suc zero)) true = apart (goes_by 2 true) (allowed 2 true) refl
level_apart (suc (suc zero)) false = apart (goes_by 2 false) (allowed 2 false) refl
level_apart (suc (suc (suc zero))) true = apart (goes_by 3 true) (allowed 3 true) refl
level_apart (suc (suc (suc zero))) false = apart (goes_by 3 false) (allowed 3 false) refl
level_apart (suc (suc (suc (suc zero)))) true = apart (goes_by 4 true) (allowed 4 true) refl
level_apart (suc (suc (suc (suc zero)))) false = apart (goes_by 4 false) (allowed 4 false) refl
level_apart (suc (suc (suc (suc (suc zero))))) true = apart (goes_by 5 true) (allowed 5 true) refl
level_apart (suc (suc (suc (suc (suc zero))))) false = apart (goes_by 5 false) (allowed 5 false) refl
level_apart (suc (suc (suc (suc (suc (suc zero)))))) true = apart (goes_by 6 true) (allowed 6 true) refl
level_apart (suc (suc (suc (suc (suc (suc zero)))))) false = apart (goes_by 6 false) (allowed 6 false) refl
level_apart (suc (suc (suc (suc (suc (suc (suc zero))))))) true = apart (goes_by 7 true) (allowed 7 true) refl
level_apart (suc (suc (suc (suc (suc (suc (suc zero))))))) false = apart (goes_by 7 false) (allowed 7 false) refl
level_apart (suc (suc (suc (suc (suc (suc (suc (suc zero)))))))) true = apart (goes_by 8 true) (allowed 8 true) refl
level_apart (suc (suc (suc (suc (suc (suc (suc (suc zero)))))))) false = apart (goes_by 8 false) (allowed 8 false) refl
level_apart (suc (suc (suc (suc (suc (suc (suc (suc (suc zero))))))))) true = apart (goes_by 9 true) (allowed 9 true) refl
level_apart (suc (suc (suc (suc (suc (suc (suc (suc (suc zero))))))))) false = apart (goes_by 9 false) (allowed 9 false) refl
level_apart (suc (suc (suc (suc (suc (suc (suc (suc (suc (suc p)))))))))) b = λ t i j. cc

pub and_left : (b c : Bool) → (b && c) ≡ true → b ≡ true
and_left true c e = refl
and_left false c e = e

pub wider : (p : ℕ) (b : Bool) → Sub (at (goes_by p b)) (at (goes_by (suc p) b))
wider p true t i = or_left (goes_by p true t.class) (operators p t.class) i
wider p false t i = or_left (goes_by p false t.class) (operators p t.class) i

pub allowed_goes : (p : ℕ) (b : Bool) → Sub (at (allowed p b)) (at (goes_by (suc p) b))
allowed_goes p true t i = or_right (goes_by p true t.class) (and_left (operators p t.class) (not (true && is_after_new t.class)) i)
allowed_goes p false t i = or_right (goes_by p false t.class) (and_left (operators p t.class) (not (false && is_after_new t.class)) i)

pub chain_stays : (p n : ℕ) → (g.chain (g.deeper n) p).stays ≡ true
chain_stays zero zero = refl
chain_stays zero (suc n) = refl
chain_stays (suc p) n = chain_stays p n

-- ---- the operations of a level, over its operands

module _ (left p : ℕ) (c : Exactly (λ n. g.chain (g.deeper n) p) (goes_operand p) left (r.chain (r.deeper left) p)) where
  abbrev turn : Bool → Family Lexeme Turn
  turn b n = g.turn (g.deeper n) p (g.chain (g.deeper n) p) b

  abbrev go_turn : Turn → Lexeme → Bool
  go_turn v t = goes_operand p v.1 t

  abbrev go_turns : Bool → List Turn → Lexeme → Bool
  go_turns b vs t = goes_by (suc p) (flag_behind ends_open b vs) t.class

  pub heads_turn : (b : Bool) → Heads (turn b) (at (allowed p b))
  heads_turn b = heads_both _ (heads_pick (allowed p b) binary_of)

  pub exactly_turn : (b : Bool) → Exactly (turn b) go_turn left (r.turn (r.deeper left) p (r.chain (r.deeper left) p) b)
  exactly_turn b = exactly_next (goes_operand p) exactly_token c

  pub first_goes : (b : Bool) (ts : List Lexeme) → sees (at (allowed p b)) ts ≡ true → GoesOn (go_turns b) [] ts
  first_goes b [] s = blank_seen (at (allowed p b)) s
  first_goes b (t ∷ ts) s = allowed_goes p b t s

  pub turns : Turns turn ends_open go_turn go_turns (λ b. at (allowed p b)) (r.turn (r.deeper left) p (r.chain (r.deeper left) p)) left
  turns = record {
    full = λ b n w s. (heads_turn b).full n w s;
    item = λ b ts s. exact_present (turn b) go_turn left ts (r.turn (r.deeper left) p (r.chain (r.deeper left) p) b ts) (λ n l. chain_stays p n) ((exactly_turn b).at ts);
    other = λ b ts s. heads_elsewhere (heads_present (heads_turn b)) ts s;
    begins = λ n a t x k i. level_apart p (ends_open a) t i ((heads_present (heads_turn (ends_open a))).begins n t x k);
    spells = λ n a t x w s i. level_apart p (ends_open a) t i ((heads_turn (ends_open a)).spells n t x w s);
    first = first_goes;
    after = λ b v t i. wider p (ends_open v) t i;
    later = λ b v vs t i. i;
  }

  abbrev operations : Operand → Family Lexeme (List Turn)
  operations first n = links (g.turn (g.deeper n) p (g.chain (g.deeper n) p)) ends_open first.1

  pub over : (b : Bool) (vs : List Turn) (t : Lexeme) → vs ≡ [] → goes_by p b t.class ≡ true → go_turns b vs t ≡ true
  over b vs t e i = let P : List Turn → Type 0 = λ l. go_turns b l t ≡ true in subst P (sym e) (wider p b t i)

  pub follows : Follows (λ n. g.chain (g.deeper n) p) operations (goes_operand p) (λ first. go_turns first.1) (λ v t. go_turns v.0.1 v.1 t)
  follows = record {
    begins = λ n a t x k i. links_follow turn ends_open go_turn go_turns (λ b. at (allowed p b)) (r.turn (r.deeper left) p (r.chain (r.deeper left) p)) left turns a.1 n t x (λ u. IsTrue (goes_operand p a u) → ⊥)
        (λ u y w s j. level_apart p a.1 u j ((heads_turn a.1).spells n u y w s)) (λ u y s j. level_apart p a.1 u j ((heads_present (heads_turn a.1)).begins n u y s)) k i;
    spells = λ n a t x w s i. links_follow_spelled turn ends_open go_turn go_turns (λ b. at (allowed p b)) (r.turn (r.deeper left) p (r.chain (r.deeper left) p)) left turns a.1 n t x w (λ u. IsTrue (goes_operand p a u) → ⊥)
        (λ u y v z j. level_apart p a.1 u j ((heads_turn a.1).spells n u y v z)) s i;
    after = λ v t i. i;
    over = λ n v t s i. over v.0.1 v.1 t (links_none turn ends_open go_turn go_turns (λ b. at (allowed p b)) (r.turn (r.deeper left) p (r.chain (r.deeper left) p)) left turns v.0.1 n v.1 s) i;
  }

  pub made_goes : (first : Operand) (vs : List Turn) (s : Span) (t : Lexeme) → go_turns first.1 vs t ≡ true → goes_operand (suc p) (chained ((first, vs), s)) t ≡ true
  made_goes first [] s t i = i
  made_goes first (v ∷ vs) s t i = i

  pub exactly_level : Exactly (λ n. g.chain (g.deeper n) (suc p)) (goes_operand (suc p)) left (r.chain (r.deeper left) (suc p))
  unfolding r.chain
  exactly_level = exactly_made (λ w t. go_turns w.0.0.1 w.0.1 t) (goes_operand (suc p)) chained (λ w t i. made_goes w.0.0 w.0.1 w.1 t i) (exactly_spanned span_of (λ v t. go_turns v.0.1 v.1 t)
      (exactly_then_by (λ n. g.chain (g.deeper n) p) operations (goes_operand p) (λ first. go_turns first.1) (λ v t. go_turns v.0.1 v.1 t) follows left (r.chain (r.deeper left) p)
      (λ first. r.turns (r.deeper left) p (r.chain (r.deeper left) p) first.1) c
      (λ first. exactly_links turn ends_open go_turn go_turns (λ b. at (allowed p b)) (r.turn (r.deeper left) p (r.chain (r.deeper left) p)) left turns first.1)))

pub chain_zero : (left : ℕ) → Exactly (λ n. g.cast (g.deeper n)) (goes_operand 0) left (r.cast (r.deeper left)) → Exactly (λ n. g.chain (g.deeper n) zero) (goes_operand 0) left (r.chain (r.deeper left) zero)
unfolding r.chain
chain_zero left c = c

pub exactly_chain : (left : ℕ) → Exactly (λ n. g.cast (g.deeper n)) (goes_operand 0) left (r.cast (r.deeper left)) → (p : ℕ) → Exactly (λ n. g.chain (g.deeper n) p) (goes_operand p) left (r.chain (r.deeper left) p)
exactly_chain left c zero = chain_zero left c
exactly_chain left c (suc p) = exactly_level left p (exactly_chain left c p)
