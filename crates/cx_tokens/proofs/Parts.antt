-- The parts of a literal, step by step.
use Rattle.std.proofs.Common.{◌≡◌, ℕ, zero, suc, ◌+◌, ◌-◌, ◌<◌, ◌≤◌, Bool, true, false, not, cond, List, [], ◌∷◌, ◌++◌, length, drop, min, map, Option, None, refl, ap, sym, ◌∙◌, arith, length-drop, append_assoc}
use Rattle.std.specs.Option.{option_or}
use Rattle.std.proofs.lemmas.List.{drop-drop}
use Rattle.cx_tokens.specs.declared.literals.Look.{Look}
use Rattle.cx_tokens.specs.declared.shapes.Flaw.{Flaw}
use Rattle.cx_tokens.specs.Bytes.{byte_at, run_of, is_octal, is_hex}
use Rattle.cx_tokens.specs.Literals.{begins_escape, ends, escape_size, hex_size, inner_size, octal_size, part_size, part_value, parts, parts_behind, place_in}
use Rattle.cx_tokens.specs.Scanning.{flaw_from, flaw_in}
use Rattle.cx_tokens.proofs.Places.{place_below}

chosen_some : (c : Bool) (x y : ℕ) → 0 < x → 0 < y → 0 < cond c x y
chosen_some true x y h k = h
chosen_some false x y h k = k

chosen_below : (n : ℕ) (c : Bool) (x y : ℕ) → x ≤ n → y ≤ n → cond c x y ≤ n
chosen_below n true x y h k = h
chosen_below n false x y h k = k

octal_below : (bytes : List ℕ) → 0 < length bytes → 1 + octal_size bytes ≤ length bytes
octal_below bytes h =
    let e : run_of is_octal (drop 1 bytes) ≤ length (drop 1 bytes) = place_below (λ rest. not (is_octal (byte_at rest 0))) (drop 1 bytes) in
    let l = length-drop 1 bytes in
    omega arith

pub escape_some : (bytes : List ℕ) → 0 < length bytes → 0 < escape_size bytes
unfolding escape_size
escape_some bytes h =
    chosen_some (is_octal (byte_at bytes 1)) (1 + octal_size bytes) _ (omega arith)
    (chosen_some _ (2 + hex_size bytes) (min 2 (length bytes)) (omega arith) (omega arith))

pub escape_below : (bytes : List ℕ) → 0 < length bytes → escape_size bytes ≤ length bytes
unfolding escape_size
escape_below [] h = omega arith
escape_below (b ∷ []) h = omega arith
escape_below (b ∷ c ∷ bytes) h =
    let e : run_of is_hex bytes ≤ length bytes = place_below (λ rest. not (is_hex (byte_at rest 0))) bytes in
    chosen_below _ (is_octal c) (1 + octal_size (b ∷ c ∷ bytes)) _ (octal_below (b ∷ c ∷ bytes) h)
    (chosen_below _ _ (2 + run_of is_hex bytes) (min 2 (length (b ∷ c ∷ bytes))) (omega arith) (omega arith))

-- what begins with a byte is no less than it, and no more than all
pub part_some : (bytes : List ℕ) → 0 < length bytes → 0 < part_size bytes
unfolding part_size
part_some bytes h = chosen_some (begins_escape bytes) (escape_size bytes) 1 (escape_some bytes h) (omega arith)

pub part_below : (bytes : List ℕ) → 0 < length bytes → part_size bytes ≤ length bytes
unfolding part_size
part_below bytes h = chosen_below _ (begins_escape bytes) (escape_size bytes) 1 (escape_below bytes h) h

parts_later : (quote skip : ℕ) (bytes : List ℕ) → parts_behind quote skip bytes ≡ parts quote (drop skip bytes)
parts_later quote zero [] = refl
parts_later quote (suc skip) [] = refl
parts_later quote zero (b ∷ bytes) = refl
parts_later quote (suc skip) (b ∷ bytes) = parts_later quote skip bytes

step_drop : (n : ℕ) (b : ℕ) (bytes : List ℕ) → 0 < n → drop (n - 1) bytes ≡ drop n (b ∷ bytes)
step_drop (suc n) b bytes h = let e : suc n - 1 ≡ n = omega arith in rw e refl
step_drop zero b bytes h = absurd (omega arith)

chosen_last : {A : Type 0} (c : Bool) (x y : A) → c ≡ false → cond c x y ≡ y
chosen_last true x y e = cc
chosen_last false x y e = refl

chosen_first : {A : Type 0} (c : Bool) (x y : A) → c ≡ true → cond c x y ≡ x
chosen_first true x y e = refl
chosen_first false x y e = cc

parts_at : (quote : ℕ) (bytes : List ℕ) → 0 < length bytes → ends quote (byte_at bytes 0) ≡ false
    → parts quote bytes ≡ bytes ∷ parts quote (drop (part_size bytes) bytes)
parts_at quote [] h e = absurd (omega arith)
parts_at quote (b ∷ bytes) h e =
    chosen_last (ends quote b) _ _ e
    ∙ ap (λ rests. (b ∷ bytes) ∷ rests)
    (parts_later quote (part_size (b ∷ bytes) - 1) bytes
    ∙ ap (parts quote) (step_drop (part_size (b ∷ bytes)) b bytes (part_some (b ∷ bytes) h)))

pub parts_end : (quote : ℕ) (bytes : List ℕ) → ends quote (byte_at bytes 0) ≡ true → parts quote bytes ≡ []
parts_end quote [] e = refl
parts_end quote (b ∷ bytes) e = chosen_first (ends quote b) _ _ e

some_left : (body : List ℕ) (at : ℕ) → at < length body → 0 < length (drop at body)
some_left body at h = let l = length-drop at body in omega arith

-- the next part, and those behind it
pub parts_step : (quote : ℕ) (body : List ℕ) (at : ℕ) → at < length body → ends quote (byte_at (drop at body) 0) ≡ false
    → parts quote (drop at body) ≡ drop at body ∷ parts quote (drop (at + part_size (drop at body)) body)
parts_step quote body at h e =
    parts_at quote (drop at body) (some_left body at h) e
    ∙ ap (λ rest. drop at body ∷ parts quote rest) (drop-drop (part_size (drop at body)) at body)

pub inner_step : (quote : ℕ) (body : List ℕ) (at : ℕ) → at < length body → ends quote (byte_at (drop at body) 0) ≡ false
    → inner_size quote (drop at body) ≡ part_size (drop at body) + inner_size quote (drop (at + part_size (drop at body)) body)
inner_step quote body at h e = rw (parts_step quote body at h e) refl

pub inner_end : (quote : ℕ) (bytes : List ℕ) → ends quote (byte_at bytes 0) ≡ true → inner_size quote bytes ≡ 0
inner_end quote bytes e = rw (parts_end quote bytes e) refl

pub part_fits : (body : List ℕ) (at : ℕ) → at < length body → at + part_size (drop at body) ≤ length body
part_fits body at h = let l = length-drop at body in let p = part_below (drop at body) (some_left body at h) in omega arith

place_of_part : (body : List ℕ) (at : ℕ) → at < length body → place_in body (drop at body) ≡ 1 + at
place_of_part body at h = let l = length-drop at body in omega arith

pub flaw_step : (look : Look) (quote : ℕ) (body : List ℕ) (at : ℕ) → at < length body → ends quote (byte_at (drop at body) 0) ≡ false
    → flaw_from look quote body (drop at body)
    ≡ option_or (flaw_in look quote (1 + at) (drop at body)) (flaw_from look quote body (drop (at + part_size (drop at body)) body))
flaw_step look quote body at h e =
    rw (parts_step quote body at h e)
    (ap (λ start. option_or (flaw_in look quote start (drop at body)) (flaw_from look quote body (drop (at + part_size (drop at body)) body)))
    (place_of_part body at h))

pub flaw_end : (look : Look) (quote : ℕ) (body bytes : List ℕ) → ends quote (byte_at bytes 0) ≡ true → flaw_from look quote body bytes ≡ None
flaw_end look quote body bytes e = rw (parts_end quote bytes e) refl

pub values_step : (quote : ℕ) (body : List ℕ) (at : ℕ) → at < length body → ends quote (byte_at (drop at body) 0) ≡ false
    → map part_value (parts quote (drop at body)) ≡ part_value (drop at body) ∷ map part_value (parts quote (drop (at + part_size (drop at body)) body))
values_step quote body at h e = rw (parts_step quote body at h e) refl

pub values_end : (quote : ℕ) (bytes : List ℕ) → ends quote (byte_at bytes 0) ≡ true → map part_value (parts quote bytes) ≡ []
values_end quote bytes e = rw (parts_end quote bytes e) refl

-- Loops keep their invariants over a part.
pub inner_kept : (quote : ℕ) (body rest : List ℕ) (at n whole : ℕ) → rest ≡ drop at body → n ≡ part_size rest → at < length body
    → ends quote (byte_at rest 0) ≡ false → at + inner_size quote (drop at body) ≡ whole
    → (at + n ≤ length body) × (at + n + inner_size quote (drop (at + n) body) ≡ whole)
inner_kept quote body rest at n whole r p h e inv =
    let q : n ≡ part_size (drop at body) = p ∙ ap part_size r in
    let f = rw r at e in
    rw q (part_fits body at h, (let s = inner_step quote body at h f in omega arith))

pub flaw_kept : (look : Look) (quote : ℕ) (body rest : List ℕ) (at n : ℕ) (whole : Option Flaw) → rest ≡ drop at body → n ≡ part_size rest → at < length body
    → ends quote (byte_at rest 0) ≡ false → flaw_in look quote (1 + at) rest ≡ None → flaw_from look quote body (drop at body) ≡ whole
    → (at + n ≤ length body) × (flaw_from look quote body (drop (at + n) body) ≡ whole)
flaw_kept look quote body rest at n whole r p h e none inv =
    let q : n ≡ part_size (drop at body) = p ∙ ap part_size r in
    let f = rw r at e in
    let g = rw r at none in
    rw q (
      part_fits body at h,
      sym (flaw_step look quote body at h f ∙ ap (λ o. option_or o (flaw_from look quote body (drop (at + part_size (drop at body)) body))) g) ∙ inv,
    )

pub values_kept : (quote : ℕ) (body rest text whole : List ℕ) (at n v : ℕ) → rest ≡ drop at body → n ≡ part_size rest → v ≡ part_value rest → at < length body
    → ends quote (byte_at rest 0) ≡ false → text ++ map part_value (parts quote (drop at body)) ≡ whole
    → (at + n ≤ length body) × ((text ++ v ∷ []) ++ map part_value (parts quote (drop (at + n) body)) ≡ whole)
values_kept quote body rest text whole at n v r p w h e inv =
    let q : n ≡ part_size (drop at body) = p ∙ ap part_size r in
    let u : v ≡ part_value (drop at body) = w ∙ ap part_value r in
    let f = rw r at e in
    rw (q, u) (
      part_fits body at h,
      (append_assoc text _ _ ∙ ap (λ values. text ++ values) (sym (values_step quote body at h f)) ∙ inv),
    )
