-- Over piece after piece of a text.
use Rattle.std.proofs.Common.{◌≡◌, ℕ, ◌+◌, ◌-◌, ◌<◌, ◌≤◌, true, List, ◌++◌, length, drop, take, ap, sym, ◌∙◌, arith, length-drop, Ok, Err}
use Rattle.std.proofs.lemmas.List.{drop-drop}
use Rattle.cx_token_defs.specs.declared.Token.{Token}
use Rattle.cx_tokens.specs.declared.step.Here.{Here}
use Rattle.cx_tokens.specs.declared.LexAnswer.{LexAnswer}
use Rattle.cx_tokens.specs.Decided.{is_decided}
use Rattle.cx_tokens.specs.Marks.{mark_of}
use Rattle.cx_tokens.specs.Reached.{Reached, Settled, Stands}
use Rattle.cx_tokens.specs.Steps.{Passes, Steps}
use Rattle.cx_tokens.specs.Tokens.{Explains}
use Rattle.cx_tokens.proofs.Reach.{explained, reached_on}
use Rattle.cx_tokens.proofs.Staying.{failed_stays, passes_stay, reached_here}

-- a text that was read up to a place, and what stands behind it
pub record Comes (bytes left : List ℕ) (here : Here) (tokens : List Token) : Type 0 where
  pub behind : drop here.at bytes ≡ left
  pub reached : Reached bytes here tokens

some_behind : (bytes left : List ℕ) (at : ℕ) → drop at bytes ≡ left → 0 < length left → at < length bytes
some_behind bytes left at d h = let e = ap length d in omega (arith, length-drop at bytes)

left_behind : (bytes left : List ℕ) (here next : Here) → drop here.at bytes ≡ left → here.at ≤ next.at → drop next.at bytes ≡ drop (next.at - here.at) left
left_behind bytes left here next d h =
    let e : here.at + (next.at - here.at) ≡ next.at = omega arith in
    sym (ap (λ xs. drop (next.at - here.at) xs) (sym d) ∙ drop-drop (next.at - here.at) here.at bytes ∙ ap (λ n. drop n bytes) e)

pub comes_on : (bytes left : List ℕ) (here next : Here) (old new : List Token) → 0 < length left → here.at ≤ next.at → Comes bytes left here old
    → (drop here.at bytes ≡ left → here.mark ≡ mark_of (take here.at bytes) → Steps bytes here old new (Ok next)) → Comes bytes (drop (next.at - here.at) left) next new
comes_on bytes left here next old new h l c s = record {
  behind = left_behind bytes left here next c.behind l;
  reached = reached_on bytes here next old new (some_behind bytes left here.at c.behind h) c.reached (s c.behind c.reached.marked);
}

pub comes_to_fault : (bytes left : List ℕ) (here : Here) (old new : List Token) (answer : LexAnswer) → 0 < length left → Comes bytes left here old
    → (drop here.at bytes ≡ left → here.mark ≡ mark_of (take here.at bytes) → Steps bytes here old new (Err answer)) → Explains bytes answer
comes_to_fault bytes left here old new answer h c s =
    explained bytes here old new answer (some_behind bytes left here.at c.behind h) c.reached (s c.behind c.reached.marked)

-- a text that was read up to a place, whatever comes behind its bytes
pub record Open (bytes left : List ℕ) (here : Here) (tokens : List Token) : Type 0 where
  pub behind : drop here.at bytes ≡ left
  pub stands : Stands bytes here tokens

pub opens_on : (bytes left : List ℕ) (here next : Here) (old new : List Token) → 0 < length left → here.at ≤ next.at → is_decided here.opens left ≡ true
    → Open bytes left here old
    → (drop here.at bytes ≡ left → here.mark ≡ mark_of (take here.at bytes) → Steps bytes here old new (Ok next)) → Open bytes (drop (next.at - here.at) left) next new
opens_on bytes left here next old new h l t o s =
    let r = reached_here bytes here old o.stands in
    let p : Passes bytes here next old new = s o.behind r.marked in
    let within = some_behind bytes left here.at o.behind h in
    record {
      behind = left_behind bytes left here next o.behind l;
      stands = record {
        reached = λ more. (let q = passes_stay bytes left more here next old new o.behind t within p in
            reached_on (bytes ++ more) here next old new q.0 (o.stands.reached more) q.1);
      };
    }

pub opens_to_fault : (bytes left : List ℕ) (here : Here) (old new : List Token) (answer : LexAnswer) → 0 < length left → is_decided here.opens left ≡ true
    → Open bytes left here old
    → (drop here.at bytes ≡ left → here.mark ≡ mark_of (take here.at bytes) → Steps bytes here old new (Err answer)) → Settled bytes answer
opens_to_fault bytes left here old new answer h t o s =
    let r = reached_here bytes here old o.stands in
    let within = some_behind bytes left here.at o.behind h in
    record {
      explains = λ more. (let q = failed_stays bytes left more here old new answer o.behind t within (s o.behind r.marked) in
          explained (bytes ++ more) here old new answer q.0 (o.stands.reached more) q.1);
    }
