-- No statement is read so that the next token is an `else` that an `if` in it could take ([stmt.if]).
use Rattle.std.proofs.Common.{◌≡◌, ℕ, Bool, true, false, if◌then◌else◌, List, Option, Some, None, refl, sym, ◌∙◌, ap}
use Rattle.cx_base.specs.declared.rule.Rule.{Rule}
use Rattle.cx_grammar.specs.Language.{along}
use Rattle.cx_grammar.specs.Exact.{Outcome, done, stop}
use Rattle.cx_grammar.specs.Reading.{Reader, made, sees, guarded, tail_if, measured_by, taken, the, ◌>>=◌, ◌>>◌, ◌<$>◌, ◌⊳◌}
use Rattle.cx_syntax.specs.declared.class.Class.{Class}
use Rattle.cx_syntax.specs.declared.class.Class.TheVariants as k
use Rattle.cx_syntax.specs.declared.lexeme.Lexeme.{Lexeme}
use Rattle.cx_syntax.specs.Classes.{is}
use Rattle.cx_syntax.specs.Readers.{choose}
use Rattle.cx_syntax.proofs.Basics.{at}

abbrev pub ElseNext : List Lexeme → Type 0
ElseNext rest = sees (is k.Else) rest ≡ true

-- what was read before an `else` takes none
abbrev pub Closed : {A : Type 0} → (A → Bool) → Outcome Lexeme A → Type 0
Closed {A = A} takes o = (rest : List Lexeme) (v : A) → o ≡ done v rest → ElseNext rest → takes v ≡ false

pub record Closes {A : Type 0} (takes : A → Bool) (read : Reader Lexeme A) : Type 0 where
  pub at : (ts : List Lexeme) → Closed takes (read ts)

pub done_value : {A : Type 0} {v w : A} {x y : List Lexeme} → done v x ≡ done w y → v ≡ w
done_value e = cc

pub done_rest : {A : Type 0} {v w : A} {x y : List Lexeme} → done v x ≡ done w y → x ≡ y
done_rest e = cc

pub not_done : {A B : Type 0} {v : A} {x : List Lexeme} {rule : Rule} {left : ℕ} → stop rule left ≡ done v x → B
not_done e = absurd (let no : ⊥ = cc in no)

-- ---- values that take no `else`

pub closes_all : {A : Type 0} {takes : A → Bool} {read : Reader Lexeme A} → ((v : A) → takes v ≡ false) → Closes takes read
closes_all c = record { at = λ ts rest v e s. c v }

-- ---- each combinator

pub closed_as : {A B : Type 0} (f : A → B) (takes : B → Bool) (o : Outcome Lexeme A) → Closed (λ a. takes (f a)) o → Closed takes (made f o)
closed_as f takes (done a r) c = λ rest v e s. ap takes (sym (done_value e)) ∙ c r a refl (ap (sees (is k.Else)) (done_rest e) ∙ s)
closed_as f takes (stop rule left) c = λ rest v e s. not_done e

pub closes_as : {A B : Type 0} {takes : B → Bool} {read : Reader Lexeme A} (f : A → B) → Closes (λ a. takes (f a)) read → Closes takes (f <$> read)
closes_as {takes = takes} {read = read} f c = record { at = λ ts. closed_as f takes (read ts) (c.at ts) }

pub closed_both : {A B : Type 0} (takes : B → Bool) (second : Reader Lexeme B) (o : Outcome Lexeme A) → Closes takes second → Closed (λ (u : A × B). takes u.1) (o >>= (λ a rest. made (λ b. (a, b)) (second rest)))
closed_both takes second (done a r) c = closed_as (λ b. (a, b)) (λ u. takes u.1) (second r) (c.at r)
closed_both takes second (stop rule left) c = λ rest v e s. not_done e

-- what stands behind the last part
pub closes_both : {A B : Type 0} {takes : B → Bool} {second : Reader Lexeme B} (first : Reader Lexeme A) → Closes takes second → Closes (λ (u : A × B). takes u.1) (first >> second)
closes_both {takes = takes} {second = second} first c = record { at = λ ts. closed_both takes second (first ts) c }

pub closes_before : {A : Type 0} {takes : A → Bool} {read : Reader Lexeme A} (p : Lexeme → Bool) → Closes takes read → Closes takes (p ⊳ read)
closes_before p c = closes_as (λ pair. pair.1) (closes_both (the p) c)

pub closed_measured : {A M : Type 0} (takes : A → Bool) (f : List Lexeme → M) (ts : List Lexeme) (o : Outcome Lexeme A) → Closed takes o → Closed (λ (u : A × M). takes u.0) (o >>= (λ v rest. done (v, f (taken ts rest)) rest))
closed_measured takes f ts (done a r) c = λ rest v e s. ap (λ u. takes u.0) (sym (done_value e)) ∙ c r a refl (ap (sees (is k.Else)) (done_rest e) ∙ s)
closed_measured takes f ts (stop rule left) c = λ rest v e s. not_done e

pub closes_measured : {A M : Type 0} {takes : A → Bool} {read : Reader Lexeme A} (f : List Lexeme → M) → Closes takes read → Closes (λ (u : A × M). takes u.0) (measured_by f read)
closes_measured {takes = takes} {read = read} f c = record { at = λ ts. closed_measured takes f ts (read ts) (c.at ts) }

pub closed_if : {A : Type 0} (takes : A → Bool) (b : Bool) (o p : Outcome Lexeme A) → Closed takes o → Closed takes p → Closed takes (if b then o else p)
closed_if takes true o p c d = c
closed_if takes false o p c d = d

pub closes_choose : {A : Type 0} {takes : A → Bool} {first second : Reader Lexeme A} (set : Class → Bool) → Closes takes first → Closes takes second → Closes takes (choose set first second)
closes_choose {takes = takes} {first = first} {second = second} set c d = record { at = λ ts. closed_if takes (sees (at set) ts) (first ts) (second ts) (c.at ts) (d.at ts) }

pub closes_guarded : {A : Type 0} {takes : A → Bool} {read : Reader Lexeme A} (room : Bool) → Closes takes read → Closes takes (guarded room read)
closes_guarded {takes = takes} {read = read} room c = record { at = λ ts. closed_if takes room (read ts) _ (c.at ts) (λ rest v e s. not_done e) }

-- ---- a part with a tail: where no tail was read, no `else` comes next

pub closed_tail : {A B : Type 0} (takes : A × Option B → Bool) (second : Reader Lexeme B) (a : A) (r : List Lexeme) (b : Bool) → sees (is k.Else) r ≡ b → Closes (λ w. takes (a, Some w)) second
    → Closed takes (if b then made along (made (λ w. (a, w)) (second r)) else done (a, None) r)
closed_tail takes second a r true s c = closed_as along takes (made (λ w. (a, w)) (second r)) (closed_as (λ w. (a, w)) (λ u. takes (along u)) (second r) (c.at r))
closed_tail takes second a r false s c = λ rest v e n. absurd (let rests = done_rest e in let both : true ≡ false = sym n ∙ (ap (sees (is k.Else)) (sym rests) ∙ s) in cc)

pub closed_tailed : {A B : Type 0} (takes : A × Option B → Bool) (second : Reader Lexeme B) (o : Outcome Lexeme A) → ((a : A) → Closes (λ w. takes (a, Some w)) second)
    → Closed takes (o >>= (λ v rest. if sees (is k.Else) rest then made along (made (λ b. (v, b)) (second rest)) else done (v, None) rest))
closed_tailed takes second (done a r) c = closed_tail takes second a r (sees (is k.Else) r) refl (c a)
closed_tailed takes second (stop rule left) c = λ rest v e s. not_done e

pub closes_tail : {A B : Type 0} {takes : A × Option B → Bool} {second : Reader Lexeme B} (first : Reader Lexeme A) → ((a : A) → Closes (λ w. takes (a, Some w)) second) → Closes takes (tail_if (is k.Else) first second)
closes_tail {takes = takes} {second = second} first c = record { at = λ ts. closed_tailed takes second (first ts) c }
