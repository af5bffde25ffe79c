-- A literal that ends some bytes before the end of what it is read from stays where more bytes follow.
use Rattle.std.proofs.Common.{◌≡◌, ℕ, zero, suc, ◌+◌, ◌-◌, ◌<◌, ◌≤◌, Bool, true, false, not, cond, List, [], ◌∷◌, ◌++◌, length, drop, take, map, min, Option, Some, None, refl, ap, ◌∙◌, arith, length-drop, length-append, ◌&&◌, ◌||◌}
use Rattle.std.proofs.lemmas.Bool.{eqb-true}
use Rattle.std.specs.Prelude.{◌==◌, nat_le}
use Rattle.std.specs.Option.{is_none, option_or, option_to_list, unwrap_or}
use Rattle.std.proofs.lemmas.List.{drop-append-le, take-append-le}
use Rattle.cx_base.specs.declared.rule.Rule.{Rule}
use Rattle.cx_base.specs.declared.rule.Rule.TheVariants as rule
use Rattle.cx_token_defs.specs.declared.TokenKind.{TokenKind}
use Rattle.cx_token_defs.specs.declared.TokenKind.TheVariants as kind
use Rattle.cx_tokens.specs.declared.shapes.Flaw.{Flaw}
use Rattle.cx_tokens.specs.Bytes.{begins_name, byte_at, is_hex, is_octal, is_splice, run_of}
use Rattle.cx_tokens.specs.Literals.{bad_escape, begins_escape, byte_flaw, byte_of, char_of, ends, escape_size, escape_value, first_flaw, first_or, hex_size, inner_size, is_bad_byte, is_character, is_closed, is_one_character, is_whole, literal_flaws, literal_kind, literal_size, octal_size, own_rule, part_size, part_value, parts, parts_behind, place_in, quoted_at, simple_escape, sizes}
use Rattle.cx_tokens.specs.Names.{is_quote}
use Rattle.cx_tokens.specs.Numbers.{value_of}
use Rattle.cx_tokens.specs.Pieces.{Found, token, flaw, size_of, unless_faulty}
use Rattle.cx_tokens.proofs.DecidedPlaces.{byte_stays, first_near, least_stays, place_stays, splice_same}
use Rattle.cx_tokens.proofs.Parts.{part_some}

-- three bytes are there, and one behind the part with which they begin
record Far (rest : List ℕ) : Type 0 where
  three : 3 ≤ length rest
  one : part_size rest < length rest

escape_begins_same : (rest more : List ℕ) → 3 ≤ length rest → begins_escape (rest ++ more) ≡ begins_escape rest
unfolding begins_escape
escape_begins_same rest more h =
    ap (λ b. (b == 92) && not (is_splice (rest ++ more))) (byte_stays rest more 0 (omega arith))
    ∙ ap (λ c. (byte_at rest 0 == 92) && not c) (splice_same rest more h)

octal_same : (rest more : List ℕ) → 1 + octal_size rest < length rest → octal_size (rest ++ more) ≡ octal_size rest
octal_same rest more h =
    ap (λ xs. min 3 (run_of is_octal xs)) (drop-append-le 1 rest more (omega arith))
    ∙ least_stays (λ xs. not (is_octal (byte_at xs 0))) 1 3 (first_near is_octal) (omega arith) (drop 1 rest) more (omega (arith, length-drop 1 rest))

hex_same : (rest more : List ℕ) → 2 + hex_size rest < length rest → hex_size (rest ++ more) ≡ hex_size rest
hex_same rest more h =
    ap (λ xs. run_of is_hex xs) (drop-append-le 2 rest more (omega arith))
    ∙ place_stays (λ xs. not (is_hex (byte_at xs 0))) 1 (first_near is_hex) (omega arith) (drop 2 rest) more (omega (arith, length-drop 2 rest))

-- a choice of which the one taken stays
chosen_stays : {A : Type 0} (n : ℕ) (c : Bool) (p q : ℕ) (x y x' y' : A) → (p < n → x' ≡ x) → (q < n → y' ≡ y) → cond c p q < n → cond c x' y' ≡ cond c x y
chosen_stays n true p q x y x' y' f g h = f h
chosen_stays n false p q x y x' y' f g h = g h

least_same : (n m : ℕ) → 2 ≤ n → min 2 (n + m) ≡ min 2 n
least_same n m h = omega arith

escape_size_same : (rest more : List ℕ) → 3 ≤ length rest → escape_size rest < length rest → escape_size (rest ++ more) ≡ escape_size rest
unfolding escape_size
escape_size_same rest more t h =
    let small : min 2 (length (rest ++ more)) ≡ min 2 (length rest) = ap (min 2) (length-append rest more) ∙ least_same (length rest) (length more) (omega arith) in
    ap (λ b. cond (is_octal b) (1 + octal_size (rest ++ more)) (cond (b == 120) (2 + hex_size (rest ++ more)) (min 2 (length (rest ++ more))))) (byte_stays rest more 1 (omega arith))
    ∙ chosen_stays (length rest) (is_octal (byte_at rest 1)) (1 + octal_size rest) (cond (byte_at rest 1 == 120) (2 + hex_size rest) (min 2 (length rest)))
    (1 + octal_size rest) (cond (byte_at rest 1 == 120) (2 + hex_size rest) (min 2 (length rest)))
    (1 + octal_size (rest ++ more)) (cond (byte_at rest 1 == 120) (2 + hex_size (rest ++ more)) (min 2 (length (rest ++ more))))
    (λ k. ap (λ n. 1 + n) (octal_same rest more k))
    (λ k. chosen_stays (length rest) (byte_at rest 1 == 120) (2 + hex_size rest) (min 2 (length rest)) (2 + hex_size rest) (min 2 (length rest))
    (2 + hex_size (rest ++ more)) (min 2 (length (rest ++ more))) (λ j. ap (λ n. 2 + n) (hex_same rest more j)) (λ _. small) k)
    h

octal_value_same : (rest more : List ℕ) → 1 + octal_size rest < length rest
    → byte_of (value_of 8 (take (octal_size (rest ++ more)) (drop 1 (rest ++ more)))) ≡ byte_of (value_of 8 (take (octal_size rest) (drop 1 rest)))
octal_value_same rest more h =
    ap (λ n. byte_of (value_of 8 (take n (drop 1 (rest ++ more))))) (octal_same rest more h)
    ∙ ap (λ xs. byte_of (value_of 8 (take (octal_size rest) xs))) (drop-append-le 1 rest more (omega arith))
    ∙ ap (λ xs. byte_of (value_of 8 xs)) (take-append-le (octal_size rest) (drop 1 rest) more (omega (arith, length-drop 1 rest)))

abbrev hex_value : ℕ → List ℕ → Option ℕ
hex_value n digits = cond (n == 0) None (byte_of (value_of 16 (take n digits)))

hex_value_same : (rest more : List ℕ) → 2 + hex_size rest < length rest → hex_value (hex_size (rest ++ more)) (drop 2 (rest ++ more)) ≡ hex_value (hex_size rest) (drop 2 rest)
hex_value_same rest more h =
    ap (λ n. hex_value n (drop 2 (rest ++ more))) (hex_same rest more h)
    ∙ ap (λ xs. hex_value (hex_size rest) xs) (drop-append-le 2 rest more (omega arith))
    ∙ ap (λ xs. cond (hex_size rest == 0) None (byte_of (value_of 16 xs))) (take-append-le (hex_size rest) (drop 2 rest) more (omega (arith, length-drop 2 rest)))

escape_value_same : (rest more : List ℕ) → 3 ≤ length rest → escape_size rest < length rest → escape_value (rest ++ more) ≡ escape_value rest
unfolding escape_size escape_value
escape_value_same rest more t h =
    ap (λ b. cond (is_octal b) (byte_of (value_of 8 (take (octal_size (rest ++ more)) (drop 1 (rest ++ more)))))
    (cond (b == 120) (hex_value (hex_size (rest ++ more)) (drop 2 (rest ++ more))) (simple_escape b))) (byte_stays rest more 1 (omega arith))
    ∙ chosen_stays (length rest) (is_octal (byte_at rest 1)) (1 + octal_size rest) (cond (byte_at rest 1 == 120) (2 + hex_size rest) (min 2 (length rest)))
    (byte_of (value_of 8 (take (octal_size rest) (drop 1 rest)))) (cond (byte_at rest 1 == 120) (hex_value (hex_size rest) (drop 2 rest)) (simple_escape (byte_at rest 1)))
    (byte_of (value_of 8 (take (octal_size (rest ++ more)) (drop 1 (rest ++ more)))))
    (cond (byte_at rest 1 == 120) (hex_value (hex_size (rest ++ more)) (drop 2 (rest ++ more))) (simple_escape (byte_at rest 1)))
    (octal_value_same rest more)
    (chosen_stays (length rest) (byte_at rest 1 == 120) (2 + hex_size rest) (min 2 (length rest)) (hex_value (hex_size rest) (drop 2 rest)) (simple_escape (byte_at rest 1))
    (hex_value (hex_size (rest ++ more)) (drop 2 (rest ++ more))) (simple_escape (byte_at rest 1)) (hex_value_same rest more) (λ _. refl))
    h

-- A choice by whether an escape begins, where its size and its value matter only if one does.
by_escape : {A : Type 0} (n : ℕ) (c : Bool) (p : ℕ) (x y x' : A) → (p < n → x' ≡ x) → cond c p 1 < n → cond c x' y ≡ cond c x y
by_escape n true p x y x' f h = f h
by_escape n false p x y x' f h = refl

part_size_same : (rest more : List ℕ) → Far rest → part_size (rest ++ more) ≡ part_size rest
unfolding part_size
part_size_same rest more far =
    ap (λ c. cond c (escape_size (rest ++ more)) 1) (escape_begins_same rest more far.three)
    ∙ by_escape (length rest) (begins_escape rest) (escape_size rest) (escape_size rest) 1 (escape_size (rest ++ more)) (escape_size_same rest more far.three) far.one

part_value_same : (rest more : List ℕ) → Far rest → part_value (rest ++ more) ≡ part_value rest
unfolding part_size part_value
part_value_same rest more far =
    ap (λ c. cond c (unwrap_or (escape_value (rest ++ more)) 0) (byte_at (rest ++ more) 0)) (escape_begins_same rest more far.three)
    ∙ ap (λ b. cond (begins_escape rest) (unwrap_or (escape_value (rest ++ more)) 0) b) (byte_stays rest more 0 (omega (arith, far.three)))
    ∙ by_escape (length rest) (begins_escape rest) (escape_size rest) (unwrap_or (escape_value rest) 0) (byte_at rest 0) (unwrap_or (escape_value (rest ++ more)) 0)
    (λ h. ap (λ o. unwrap_or o 0) (escape_value_same rest more far.three h)) far.one

abbrev bad_if : Bool → Option ℕ → ℕ → ℕ → Option Flaw
bad_if c value start n = cond (c && is_none value) (Some (flaw start n rule.BadEscape)) None

bad_by_escape : (n : ℕ) (c : Bool) (p p' start : ℕ) (v v' : Option ℕ) → (p < n → v' ≡ v) → (p < n → p' ≡ p) → cond c p 1 < n → bad_if c v' start p' ≡ bad_if c v start p
bad_by_escape n true p p' start v v' f g h = ap (λ x. bad_if true x start p') (f h) ∙ ap (bad_if true v start) (g h)
bad_by_escape n false p p' start v v' f g h = refl

bad_escape_same : (rest more : List ℕ) (start : ℕ) → Far rest → bad_escape start (rest ++ more) ≡ bad_escape start rest
unfolding bad_escape part_size
bad_escape_same rest more start far =
    ap (λ c. bad_if c (escape_value (rest ++ more)) start (escape_size (rest ++ more))) (escape_begins_same rest more far.three)
    ∙ bad_by_escape (length rest) (begins_escape rest) (escape_size rest) (escape_size (rest ++ more)) start (escape_value rest) (escape_value (rest ++ more))
    (escape_value_same rest more far.three) (escape_size_same rest more far.three) far.one

byte_flaw_same : (quote : ℕ) (rest more : List ℕ) (start : ℕ) → Far rest → byte_flaw quote start (rest ++ more) ≡ byte_flaw quote start rest
unfolding byte_flaw
byte_flaw_same quote rest more start far =
    ap (λ c. cond c (Some (flaw start 1 rule.LeftOut)) (cond (is_bad_byte quote (byte_at (rest ++ more) 0)) (Some (flaw start 1 rule.BadByte)) None)) (splice_same rest more far.three)
    ∙ ap (λ b. cond (is_splice rest) (Some (flaw start 1 rule.LeftOut)) (cond (is_bad_byte quote b) (Some (flaw start 1 rule.BadByte)) None)) (byte_stays rest more 0 (omega (arith, far.three)))

AllFar : List (List ℕ) → Type 0
AllFar [] = Unit {0}
AllFar (rest ∷ rests) = Far rest × AllFar rests

abbrev longer : List ℕ → List (List ℕ) → List (List ℕ)
longer more rests = map (λ rest. rest ++ more) rests

-- the parts of a literal, each with what follows
record Stay (now then : List (List ℕ)) (more : List ℕ) : Type 0 where
  same : then ≡ longer more now
  far : AllFar now

chosen_parts : (rest more : List ℕ) (now then : List (List ℕ)) (c : Bool) → 3 ≤ length rest → sizes (cond c [] (rest ∷ now)) + 3 ≤ length rest
    → (part_size rest < length rest → part_size rest + sizes now + 3 ≤ length rest → Stay now then more)
    → Stay (cond c [] (rest ∷ now)) (cond c [] ((rest ++ more) ∷ then)) more
unfolding AllFar
chosen_parts rest more now then true t h f = record { same = refl; far = tt }
chosen_parts rest more now then false t h f =
    let s = f (omega arith) (omega arith) in
    record { same = ap (λ rs. (rest ++ more) ∷ rs) s.same; far = (record { three = t; one = omega arith }, s.far) }

parts_stay : (quote skip : ℕ) (bytes more : List ℕ) → skip + sizes (parts_behind quote skip bytes) + 3 ≤ length bytes
    → Stay (parts_behind quote skip bytes) (parts_behind quote skip (bytes ++ more)) more
parts_stay quote skip [] more h = absurd (omega arith)
parts_stay quote (suc skip) (b ∷ bytes) more h = parts_stay quote skip bytes more (omega arith)
parts_stay quote zero (b ∷ bytes) more h =
    let n = part_size (b ∷ bytes) in
    let some : 0 < n = part_some (b ∷ bytes) (omega arith) in
    chosen_parts (b ∷ bytes) more (parts_behind quote (n - 1) bytes) (parts_behind quote (part_size (b ∷ bytes ++ more) - 1) (bytes ++ more)) (ends quote b) (omega arith) (omega arith)
    (λ one k. let e : part_size (b ∷ bytes ++ more) ≡ n = part_size_same (b ∷ bytes) more (record { three = omega arith; one = one }) in
    rw e (parts_stay quote (n - 1) bytes more (omega arith)))

sizes_same : (more : List ℕ) (rests : List (List ℕ)) → AllFar rests → sizes (longer more rests) ≡ sizes rests
unfolding AllFar
sizes_same more [] h = refl
sizes_same more (rest ∷ rests) h = ap (λ n. n + sizes (longer more rests)) (part_size_same rest more h.0) ∙ ap (λ n. part_size rest + n) (sizes_same more rests h.1)

flaws_same : (more : List ℕ) (now then : List ℕ → Option Flaw) → ((rest : List ℕ) → Far rest → then (rest ++ more) ≡ now rest) → (rests : List (List ℕ)) → AllFar rests
    → first_flaw then (longer more rests) ≡ first_flaw now rests
unfolding AllFar
flaws_same more now then f [] h = refl
flaws_same more now then f (rest ∷ rests) h =
    ap (λ o. option_or o (first_flaw then (longer more rests))) (f rest h.0) ∙ ap (λ o. option_or (now rest) o) (flaws_same more now then f rests h.1)

place_same : (body rest more : List ℕ) → place_in (body ++ more) (rest ++ more) ≡ place_in body rest
place_same body rest more = omega (arith, length-append body more, length-append rest more)

-- the flaws that a literal has, from what is found in it
abbrev flaws_with : Bool → Bool → ℕ → Rule → Option Flaw → Option Flaw → List Flaw
flaws_with whole behind n broken escape byte =
    first_or escape (cond whole [] (flaw 0 n broken ∷ []) ++ cond behind (flaw 0 n rule.LeftOut ∷ []) []) ++ option_to_list byte

abbrev literal_with : Bool → ℕ → ℕ → Rule → Option Flaw → Option Flaw → TokenKind → Found
literal_with whole behind n broken escape byte k = unless_faulty (flaws_with whole (begins_name behind) n broken escape byte) (token n k)

-- a literal's body that ends some bytes before the end of what is read
record Body (quote : ℕ) (body more : List ℕ) : Type 0 where
  inner : inner_size quote (body ++ more) ≡ inner_size quote body
  escapes : first_flaw (λ rest. bad_escape (place_in (body ++ more) rest) rest) (parts quote (body ++ more)) ≡ first_flaw (λ rest. bad_escape (place_in body rest) rest) (parts quote body)
  bytes : first_flaw (λ rest. byte_flaw quote (place_in (body ++ more) rest) rest) (parts quote (body ++ more)) ≡ first_flaw (λ rest. byte_flaw quote (place_in body rest) rest) (parts quote body)

body_stays : (quote : ℕ) (body more : List ℕ) → inner_size quote body + 3 ≤ length body → Body quote body more
body_stays quote body more h =
    let s = parts_stay quote 0 body more (omega arith) in
    let now = parts quote body in
    record {
      inner = ap sizes s.same ∙ sizes_same more now s.far;
      escapes = ap (first_flaw (λ rest. bad_escape (place_in (body ++ more) rest) rest)) s.same
          ∙ flaws_same more (λ rest. bad_escape (place_in body rest) rest) (λ rest. bad_escape (place_in (body ++ more) rest) rest)
          (λ rest far. ap (λ n. bad_escape n (rest ++ more)) (place_same body rest more) ∙ bad_escape_same rest more (place_in body rest) far) now s.far;
      bytes = ap (first_flaw (λ rest. byte_flaw quote (place_in (body ++ more) rest) rest)) s.same
          ∙ flaws_same more (λ rest. byte_flaw quote (place_in body rest) rest) (λ rest. byte_flaw quote (place_in (body ++ more) rest) rest)
          (λ rest far. ap (λ n. byte_flaw quote n (rest ++ more)) (place_same body rest more) ∙ byte_flaw_same quote rest more (place_in body rest) far) now s.far;
    }

apart_by : (quote : ℕ) (c d : Bool) → (quote == 39) ≡ c → (quote == 34) ≡ d → (c || d) ≡ true → ends quote 92 ≡ false
apart_by quote true d e f h = let g : quote ≡ 39 = eqb-true quote 39 e in rw g refl
apart_by quote false true e f h = let g : quote ≡ 34 = eqb-true quote 34 f in rw g refl
apart_by quote false false e f h = cc

both_first : (c d : Bool) → (c && d) ≡ true → c ≡ true
both_first true d h = refl
both_first false d h = cc

escape_first : (body : List ℕ) → begins_escape body ≡ true → (byte_at body 0 == 92) ≡ true
unfolding begins_escape
escape_first body e = both_first (byte_at body 0 == 92) (not (is_splice body)) e

single : (body : List ℕ) → begins_escape body ≡ false → part_size body ≡ 1
unfolding part_size
single body e = ap (λ c. cond c (escape_size body) 1) e

abbrev plain : ℕ → Bool
plain b = nat_le 32 b && (nat_le b 126 && not (b == 92 || b == 39))

-- The part with which a body begins: a `\` ends no literal.
no_end : (quote b : ℕ) → is_quote quote ≡ true → (b == 92) ≡ true → ends quote b ≡ false
no_end quote b q e =
    let f : b ≡ 92 = eqb-true b 92 e in
    rw f (apart_by quote (quote == 39) (quote == 34) refl refl q)

first_part : (quote : ℕ) (body : List ℕ) (c : Bool) → 3 ≤ length body → begins_escape body ≡ c → (c ≡ true → ends quote (byte_at body 0) ≡ false)
    → inner_size quote body + 3 ≤ length body → part_size body < length body
first_part quote [] c t e f h = absurd (omega arith)
first_part quote (b ∷ body) true t e f h =
    let g : ends quote b ≡ false = f refl in
    let n : inner_size quote (b ∷ body) ≡ part_size (b ∷ body) + sizes (parts_behind quote (part_size (b ∷ body) - 1) body) =
    ap (λ x. sizes (cond x [] ((b ∷ body) ∷ parts_behind quote (part_size (b ∷ body) - 1) body))) g in
    omega arith
first_part quote (b ∷ body) false t e f h = let g : part_size (b ∷ body) ≡ 1 = single (b ∷ body) e in omega arith

first_far : (quote : ℕ) (body : List ℕ) → is_quote quote ≡ true → inner_size quote body + 3 ≤ length body → Far body
first_far quote body q h = record {
  three = omega arith;
  one = first_part quote body (begins_escape body) (omega arith) refl (λ e. no_end quote (byte_at body 0) q (escape_first body e)) h;
}

closed_same : (quote : ℕ) (body more : List ℕ) → Body quote body more → inner_size quote body + 3 ≤ length body → is_closed quote (body ++ more) ≡ is_closed quote body
unfolding is_closed
closed_same quote body more b h =
    ap (λ n. byte_at (body ++ more) n == quote) b.inner ∙ ap (λ x. x == quote) (byte_stays body more (inner_size quote body) (omega arith))

size_same : (quote : ℕ) (body more : List ℕ) → Body quote body more → inner_size quote body + 3 ≤ length body → literal_size quote (body ++ more) ≡ literal_size quote body
unfolding literal_size
size_same quote body more b h =
    ap (λ n. 1 + n + cond (is_closed quote (body ++ more)) 1 0) b.inner ∙ ap (λ c. 1 + inner_size quote body + cond c 1 0) (closed_same quote body more b h)

one_same : (body more : List ℕ) → Far body → is_one_character (body ++ more) ≡ is_one_character body
unfolding is_one_character
one_same body more far =
    ap (λ c. (c || plain (byte_at (body ++ more) 0)) && (byte_at (body ++ more) (part_size (body ++ more)) == 39)) (escape_begins_same body more far.three)
    ∙ ap (λ b. (begins_escape body || plain b) && (byte_at (body ++ more) (part_size (body ++ more)) == 39)) (byte_stays body more 0 (omega (arith, far.three)))
    ∙ ap (λ n. is_character body && (byte_at (body ++ more) n == 39)) (part_size_same body more far)
    ∙ ap (λ b. is_character body && (b == 39)) (byte_stays body more (part_size body) far.one)

whole_same : (quote : ℕ) (body more : List ℕ) → Body quote body more → Far body → inner_size quote body + 3 ≤ length body → is_whole quote (body ++ more) ≡ is_whole quote body
unfolding is_whole
whole_same quote body more b far h =
    ap (λ c. cond (quote == 34) c (is_one_character (body ++ more))) (closed_same quote body more b h)
    ∙ ap (λ c. cond (quote == 34) (is_closed quote body) c) (one_same body more far)

kind_same : (quote : ℕ) (body more : List ℕ) → Far body → literal_kind quote (body ++ more) ≡ literal_kind quote body
unfolding literal_kind
kind_same quote body more far = ap (λ v. cond (quote == 34) kind.Str (kind.Char (char_of v))) (part_value_same body more far)

size_unless : (fs : List Flaw) (found : Found) → size_of (unless_faulty fs found) ≡ size_of found
size_unless [] found = refl
size_unless (f ∷ fs) found = refl

size_least : (quote : ℕ) (body : List ℕ) → inner_size quote body + 1 ≤ literal_size quote body
unfolding literal_size
size_least quote body = omega arith

pub quoted_at_stays : (quote : ℕ) (body more : List ℕ) → is_quote quote ≡ true → size_of (quoted_at quote body) + 2 ≤ length body
    → quoted_at quote (body ++ more) ≡ quoted_at quote body
unfolding quoted_at
quoted_at_stays quote body more q h =
    let n = literal_size quote body in
    let sized : size_of (unless_faulty (literal_flaws quote body) (token n (literal_kind quote body))) ≡ n = size_unless (literal_flaws quote body) (token n (literal_kind quote body)) in
    let fits : n + 2 ≤ length body = omega arith in
    let inner : inner_size quote body + 3 ≤ length body = omega (arith, size_least quote body) in
    let b = body_stays quote body more inner in
    let far = first_far quote body q inner in
    let size = size_same quote body more b inner in
    let whole = whole_same quote body more b far inner in
    let behind = byte_at (body ++ more) (n - 1) in
    let r = own_rule quote in
    let escapes = first_flaw (λ rest. bad_escape (place_in body rest) rest) (parts quote body) in
    let bytes = first_flaw (λ rest. byte_flaw quote (place_in body rest) rest) (parts quote body) in
    let escapes' = first_flaw (λ rest. bad_escape (place_in (body ++ more) rest) rest) (parts quote (body ++ more)) in
    let bytes' = first_flaw (λ rest. byte_flaw quote (place_in (body ++ more) rest) rest) (parts quote (body ++ more)) in
    let k' = literal_kind quote (body ++ more) in
    ap (λ z. literal_with (is_whole quote (body ++ more)) (byte_at (body ++ more) (z - 1)) z r escapes' bytes' k') size
    ∙ ap (λ w. literal_with w behind n r escapes' bytes' k') whole
    ∙ ap (λ e. literal_with (is_whole quote body) behind n r e bytes' k') b.escapes
    ∙ ap (λ e. literal_with (is_whole quote body) behind n r escapes e k') b.bytes
    ∙ ap (λ k. literal_with (is_whole quote body) behind n r escapes bytes k) (kind_same quote body more far)
    ∙ ap (λ x. literal_with (is_whole quote body) x n r escapes bytes (literal_kind quote body)) (byte_stays body more (n - 1) (omega arith))
