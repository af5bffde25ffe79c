-- What is found is some bytes long, and its flaws lie within it.
use Rattle.std.proofs.Common.{◌≡◌, ℕ, zero, suc, ◌+◌, ◌-◌, ◌<◌, ◌≤◌, Bool, true, false, cond, List, [], ◌∷◌, ◌++◌, length, drop, take, min, Option, Some, None, refl, ap, sym, arith, length-drop, ltb, ◌&&◌}
use borrow.Author.Tests.{ltb-true}
use Rattle.std.specs.Prelude.{◌==◌}
use Rattle.std.specs.List.{list_any}
use Rattle.std.specs.Option.{option_or, option_to_list, is_none}
use Rattle.cx_base.specs.declared.rule.Rule.{Rule}
use Rattle.cx_base.specs.declared.rule.Rule.TheVariants as rule
use Rattle.cx_ints.specs.declared.literals.Suffix.{Suffix}
use Rattle.cx_base.specs.declared.int_type.IntType.{IntType}
use Rattle.cx_tokens.specs.declared.shapes.Flaw.{Flaw}
use Rattle.cx_token_defs.specs.declared.TokenKind.{TokenKind}
use Rattle.cx_tokens.specs.Bytes.{byte_at, begins_name, is_blank, is_splice, place_where}
use Rattle.cx_tokens.specs.Literals.{bad_escape, begins_escape, behind_flaws, byte_flaw, ends, escape_size, escape_value, first_flaw, first_or, inner_size, is_bad_byte, is_closed, literal_flaws, literal_kind, literal_size, own_flaws, own_rule, is_whole, part_size, parts, parts_behind, place_in, quoted, quoted_at, sizes}
use Rattle.cx_tokens.specs.Names.{is_among, is_quote, name, name_size, name_with, is_left_out_name, longest_name}
use Rattle.cx_tokens.specs.Numbers.{suffix_of, tail_of, begins_number, number, number_size, suffixed, typed}
use Rattle.cx_tokens.specs.Pieces.{Found, white, token, faulty, broken, flaw, size_of, unless_faulty}
use Rattle.cx_tokens.specs.Punctuators.{doubles, doubles_left_out, is_lone_less, punctuator, singles, triples, triples_left_out}
use Rattle.cx_tokens.specs.Space.{is_marker, begins_block_comment, begins_line_comment, block_comment, hash, line_comment, splices, line_size, comment_body}
use Rattle.cx_tokens.specs.Cut.{found_at}
use Rattle.cx_tokens.proofs.Parts.{escape_some, part_some}

-- a flaw within the first n of so many bytes
pub record Sits (n all : ℕ) (f : Flaw) : Type 0 where
  pub ends_within : f.start + f.size ≤ n
  pub starts_within : f.start < n
  pub is_there : f.start < all

abbrev pub AllSit : ℕ → ℕ → List Flaw → Type 0
AllSit n all [] = Unit {0}
AllSit n all (f ∷ fs) = Sits n all f × AllSit n all fs

abbrev pub FlawsSit : ℕ → Found → Type 0
FlawsSit all (white n) = Unit {0}
FlawsSit all (token n k) = Unit {0}
FlawsSit all (faulty n f fs) = AllSit n all (f ∷ fs)

pub record IsFound (all : ℕ) (found : Found) : Type 0 where
  pub some : 0 < size_of found
  pub sit : FlawsSit all found

chosen : (all : ℕ) (c : Bool) (f g : Found) → IsFound all f → IsFound all g → IsFound all (cond c f g)
chosen all true f g h k = h
chosen all false f g h k = k

whole_found : (all n : ℕ) (r : Rule) → 0 < n → 0 < all → IsFound all (broken n r)
whole_found all n r h k = record { some = h; sit = (record { ends_within = omega arith; starts_within = h; is_there = k }, tt) }

white_found : (all n : ℕ) → 0 < n → IsFound all (white n)
white_found all n h = record { some = h; sit = tt }

token_found : (all n : ℕ) (k : TokenKind) → 0 < n → IsFound all (token n k)
token_found all n k h = record { some = h; sit = tt }

unless_found : (all : ℕ) (fs : List Flaw) (found : Found) → IsFound all found → AllSit (size_of found) all fs → IsFound all (unless_faulty fs found)
unless_found all [] found h k = h
unless_found all (f ∷ fs) found h k = record { some = h.some; sit = k }

spliced_sits : (n all p : ℕ) (c : Bool) → ltb p (min n all) ≡ c → AllSit n all (cond c (flaw p 1 rule.LeftOut ∷ []) [])
spliced_sits n all p true e =
    let h : p < min n all = ltb-true _ _ e in
    (record { ends_within = omega arith; starts_within = omega arith; is_there = omega arith }, tt)
spliced_sits n all p false e = tt

splices_sit : (n : ℕ) (rest : List ℕ) → AllSit n (length rest) (splices n rest)
splices_sit n rest = spliced_sits n (length rest) (place_where is_splice rest) (ltb (place_where is_splice rest) (min n (length rest))) refl

name_found : (rest : List ℕ) → 0 < length rest → IsFound (length rest) (name rest)
unfolding name name_with
name_found rest h =
    chosen _ (ltb longest_name (name_size rest)) _ _ (whole_found _ (name_size rest) rule.LongName (omega arith) h)
    (chosen _ (is_left_out_name (take (name_size rest) rest) (byte_at rest (name_size rest))) _ _
    (whole_found _ (name_size rest) rule.LeftOut (omega arith) h) (token_found _ (name_size rest) _ (omega arith)))

typed_found : (all n value : ℕ) (ty : Option IntType) → 0 < n → 0 < all → IsFound all (typed n value ty)
typed_found all n value None h k = whole_found all n rule.NumberRange h k
typed_found all n value (Some ty) h k = token_found all n _ h

suffixed_found : (all n : ℕ) (run : List ℕ) (suffix : Option Suffix) → 0 < n → 0 < all → IsFound all (suffixed n run suffix)
suffixed_found all n run None h k = whole_found all n rule.BadNumber h k
suffixed_found all n run (Some suffix) h k = chosen all _ _ _ (typed_found all n _ _ h k) (whole_found all n rule.BadNumber h k)

number_found : (rest : List ℕ) → 0 < length rest → IsFound (length rest) (number rest)
unfolding number
number_found rest h = suffixed_found (length rest) (number_size rest) (take (number_size rest) rest) (suffix_of (tail_of (take (number_size rest) rest))) (omega arith) h

line_comment_found : (rest : List ℕ) → IsFound (length rest) (line_comment rest)
unfolding line_comment
line_comment_found rest =
    unless_found _ (splices (line_size 2 rest) rest) (white (line_size 2 rest)) (white_found _ (line_size 2 rest) (omega arith)) (splices_sit (line_size 2 rest) rest)

block_comment_found : (rest : List ℕ) → 0 < length rest → IsFound (length rest) (block_comment rest)
unfolding block_comment
block_comment_found rest h =
    chosen _ (ltb (comment_body rest) (length (drop 2 rest))) _ _
    (unless_found _ (splices (comment_body rest + 4) rest) (white (comment_body rest + 4)) (white_found _ (comment_body rest + 4) (omega arith)) (splices_sit (comment_body rest + 4) rest))
    (record { some = omega arith; sit = (record { ends_within = omega arith; starts_within = omega arith; is_there = h }, splices_sit (comment_body rest + 2) rest) })

hash_found : (opens : Bool) (rest : List ℕ) → 0 < length rest → IsFound (length rest) (hash opens rest)
unfolding hash
hash_found opens rest h =
    chosen _ (opens && is_marker rest) _ _ (white_found _ (line_size 1 rest) (omega arith)) (whole_found _ 1 rule.Directive (omega arith) h)

punctuator_found : (rest : List ℕ) → 0 < length rest → IsFound (length rest) (punctuator rest)
unfolding punctuator
punctuator_found rest h =
    chosen _ (is_lone_less rest) _ _ (token_found _ 1 _ (omega arith))
    (chosen _ (is_among triples (take 3 rest)) _ _ (token_found _ 3 _ (omega arith))
    (chosen _ (is_among triples_left_out (take 3 rest)) _ _ (whole_found _ 3 rule.LeftOut (omega arith) h)
    (chosen _ (is_among doubles (take 2 rest)) _ _ (token_found _ 2 _ (omega arith))
    (chosen _ (is_among doubles_left_out (take 2 rest)) _ _ (whole_found _ 2 rule.LeftOut (omega arith) h)
    (chosen _ (list_any (λ b. b == byte_at rest 0) singles) _ _ (token_found _ 1 _ (omega arith))
    (whole_found _ 1 rule.BadByte (omega arith) h))))))

-- where a part's flaw stands
record Stands (body : List ℕ) (rest : List ℕ) (f : Flaw) : Type 0 where
  start_is : f.start ≡ place_in body rest
  size_within : f.size ≤ part_size rest
  size_some : 0 < f.size

escape_stands : (start size : ℕ) (b bad : Bool) (f : Flaw) → cond (b && bad) (Some (flaw start size rule.BadEscape)) None ≡ Some f
    → 0 < size → (f.start ≡ start) × (f.size ≤ cond b size 1) × (0 < f.size)
escape_stands start size true true f e h =
    let g : flaw start size rule.BadEscape ≡ f = cc in
    let s : f.size ≡ size = sym (ap (λ x. x.size) g) in
    (sym (ap (λ x. x.start) g), omega arith, omega arith)
escape_stands start size true false f e h = cc
escape_stands start size false bad f e h = cc

bad_escape_stands : (body rest : List ℕ) (f : Flaw) → 0 < length rest → bad_escape (place_in body rest) rest ≡ Some f → Stands body rest f
unfolding bad_escape part_size
bad_escape_stands body rest f h e =
    let s = escape_stands (place_in body rest) (escape_size rest) (begins_escape rest) (is_none (escape_value rest)) f e (escape_some rest h) in
    record { start_is = s.0; size_within = s.1; size_some = s.2 }

byte_stands : (start size : ℕ) (spliced bad : Bool) (f : Flaw) → 0 < size
    → cond spliced (Some (flaw start 1 rule.LeftOut)) (cond bad (Some (flaw start 1 rule.BadByte)) None) ≡ Some f → (f.start ≡ start) × (f.size ≤ size) × (0 < f.size)
byte_stands start size true bad f h e =
    let g : flaw start 1 rule.LeftOut ≡ f = cc in
    let s : f.size ≡ 1 = sym (ap (λ x. x.size) g) in
    (sym (ap (λ x. x.start) g), omega arith, omega arith)
byte_stands start size false true f h e =
    let g : flaw start 1 rule.BadByte ≡ f = cc in
    let s : f.size ≡ 1 = sym (ap (λ x. x.size) g) in
    (sym (ap (λ x. x.start) g), omega arith, omega arith)
byte_stands start size false false f h e = cc

byte_flaw_stands : (quote : ℕ) (body rest : List ℕ) (f : Flaw) → 0 < length rest → byte_flaw quote (place_in body rest) rest ≡ Some f → Stands body rest f
unfolding byte_flaw
byte_flaw_stands quote body rest f h e =
    let s = byte_stands (place_in body rest) (part_size rest) (is_splice rest) (is_bad_byte quote (byte_at rest 0)) f (part_some rest h) e in
    record { start_is = s.0; size_within = s.1; size_some = s.2 }

-- within so many bytes of the literal
record Reaches (body : List ℕ) (bound : ℕ) (f : Flaw) : Type 0 where
  reach : f.start + f.size ≤ bound
  some : 0 < f.size
  there : f.start ≤ length body

first_reaches : (body rest : List ℕ) (rests : List (List ℕ)) (flaw_at : List ℕ → Option Flaw) (f : Flaw) (first : Option Flaw) (before : ℕ)
    → 0 < length rest → before + length rest ≡ length body
    → ((g : Flaw) → flaw_at rest ≡ Some g → Stands body rest g)
    → (first_flaw flaw_at rests ≡ Some f → Reaches body (1 + before + (part_size rest + sizes rests)) f)
    → flaw_at rest ≡ first → option_or first (first_flaw flaw_at rests) ≡ Some f → Reaches body (1 + before + (part_size rest + sizes rests)) f
first_reaches body rest rests flaw_at f (Some g) before h l stands later e o =
    let s = stands g e in
    let i : g ≡ f = cc in
    let a : g.start ≡ f.start = ap (λ x. x.start) i in
    let b : g.size ≡ f.size = ap (λ x. x.size) i in
    record { reach = omega (arith, s.start_is, s.size_within); some = omega (arith, s.size_some); there = omega (arith, s.start_is) }
first_reaches body rest rests flaw_at f None before h l stands later e o = later o

chosen_reaches : (body : List ℕ) (flaw_at : List ℕ → Option Flaw) (f : Flaw) (bound : ℕ) (c : Bool) (some : List (List ℕ))
    → (first_flaw flaw_at some ≡ Some f → Reaches body (bound + sizes some) f)
    → first_flaw flaw_at (cond c [] some) ≡ Some f → Reaches body (bound + sizes (cond c [] some)) f
chosen_reaches body flaw_at f bound true some h e = cc
chosen_reaches body flaw_at f bound false some h e = h e

flaw_reaches : (quote : ℕ) (body : List ℕ) (flaw_at : List ℕ → Option Flaw) → ((rest : List ℕ) (g : Flaw) → 0 < length rest → flaw_at rest ≡ Some g → Stands body rest g)
    → (bytes : List ℕ) (skip before : ℕ) (f : Flaw) → before + length bytes ≡ length body → first_flaw flaw_at (parts_behind quote skip bytes) ≡ Some f
    → Reaches body (1 + before + skip + sizes (parts_behind quote skip bytes)) f
flaw_reaches quote body flaw_at stands [] skip before f l e = cc
flaw_reaches quote body flaw_at stands (b ∷ bytes) (suc skip) before f l e =
    let r = flaw_reaches quote body flaw_at stands bytes skip (before + 1) f (omega arith) e in
    record { reach = omega (arith, r.reach); some = r.some; there = r.there }
flaw_reaches quote body flaw_at stands (b ∷ bytes) zero before f l e =
    let n = part_size (b ∷ bytes) in
    let p : 0 < n = part_some (b ∷ bytes) (omega arith) in
    let rests = parts_behind quote (n - 1) bytes in
    let later : first_flaw flaw_at rests ≡ Some f → Reaches body (1 + before + (n + sizes rests)) f = λ i.
    (let r = flaw_reaches quote body flaw_at stands bytes (n - 1) (before + 1) f (omega arith) i in
    record { reach = omega (arith, r.reach); some = r.some; there = r.there }) in
    chosen_reaches body flaw_at f (1 + before + 0) (ends quote b) ((b ∷ bytes) ∷ rests)
    (λ i. let r = first_reaches body (b ∷ bytes) rests flaw_at f (flaw_at (b ∷ bytes)) before (omega arith) l (λ g. stands (b ∷ bytes) g (omega arith)) later refl i in
    record { reach = omega (arith, r.reach); some = r.some; there = r.there })
    e

reached_sits : (body : List ℕ) (bound n all : ℕ) (f : Flaw) → bound ≤ n → 1 + length body ≡ all → Reaches body bound f → Sits n all f
reached_sits body bound n all f h l r =
    record { ends_within = omega (arith, r.reach); starts_within = omega (arith, r.reach, r.some); is_there = omega (arith, r.there) }

sit_append : (n all : ℕ) (fs gs : List Flaw) → AllSit n all fs → AllSit n all gs → AllSit n all (fs ++ gs)
sit_append n all [] gs h k = k
sit_append n all (f ∷ fs) gs h k = (h.0, sit_append n all fs gs h.1 k)

option_sits : (n all : ℕ) (o : Option Flaw) → ((f : Flaw) → o ≡ Some f → Sits n all f) → AllSit n all (option_to_list o)
option_sits n all None h = tt
option_sits n all (Some f) h = (h f refl, tt)

first_or_sits : (n all : ℕ) (o : Option Flaw) (own : List Flaw) → ((f : Flaw) → o ≡ Some f → Sits n all f) → AllSit n all own → AllSit n all (first_or o own)
first_or_sits n all None own h k = k
first_or_sits n all (Some f) own h k = (h f refl, tt)

whole_sits : (n all : ℕ) (r : Rule) → 0 < n → 0 < all → Sits n all (flaw 0 n r)
whole_sits n all r h k = record { ends_within = omega arith; starts_within = h; is_there = k }

own_sits : (n all : ℕ) (c d : Bool) (r t : Rule) → 0 < n → 0 < all → AllSit n all (cond c [] (flaw 0 n r ∷ []) ++ cond d (flaw 0 n t ∷ []) [])
own_sits n all true true r t h k = (whole_sits n all t h k, tt)
own_sits n all true false r t h k = tt
own_sits n all false true r t h k = (whole_sits n all r h k, (whole_sits n all t h k, tt))
own_sits n all false false r t h k = (whole_sits n all r h k, tt)

literal_sits : (quote : ℕ) (body : List ℕ) (all : ℕ) → 1 + length body ≡ all → AllSit (literal_size quote body) all (literal_flaws quote body)
unfolding literal_size
literal_sits quote body all l =
    let n : ℕ = 1 + inner_size quote body + cond (is_closed quote body) 1 0 in
    sit_append n all _ _
    (first_or_sits n all (first_flaw (λ rest. bad_escape (place_in body rest) rest) (parts quote body)) (own_flaws quote body ++ behind_flaws quote body)
    (λ f e. reached_sits body _ n all f (omega arith) l (flaw_reaches quote body (λ rest. bad_escape (place_in body rest) rest) (λ rest g h i. bad_escape_stands body rest g h i) body 0 0 f (omega arith) e))
    (own_sits n all (is_whole quote body) (begins_name (byte_at body (n - 1))) (own_rule quote) rule.LeftOut (omega arith) (omega arith)))
    (option_sits n all (first_flaw (λ rest. byte_flaw quote (place_in body rest) rest) (parts quote body))
    (λ f e. reached_sits body _ n all f (omega arith) l (flaw_reaches quote body (λ rest. byte_flaw quote (place_in body rest) rest) (λ rest g h i. byte_flaw_stands quote body rest g h i) body 0 0 f (omega arith) e)))

quoted_found : (rest : List ℕ) → 0 < length rest → IsFound (length rest) (quoted rest)
unfolding quoted quoted_at literal_size
quoted_found rest h =
    let l : 1 + length (drop 1 rest) ≡ length rest = omega (arith, length-drop 1 rest) in
    unless_found (length rest) (literal_flaws (byte_at rest 0) (drop 1 rest)) (token (literal_size (byte_at rest 0) (drop 1 rest)) (literal_kind (byte_at rest 0) (drop 1 rest)))
    (token_found _ (literal_size (byte_at rest 0) (drop 1 rest)) _ (omega arith)) (literal_sits (byte_at rest 0) (drop 1 rest) (length rest) l)

pub is_found : (opens : Bool) (rest : List ℕ) → 0 < length rest → IsFound (length rest) (found_at opens rest)
unfolding found_at
is_found opens rest h =
    chosen _ (is_blank (byte_at rest 0)) _ _ (white_found _ 1 (omega arith))
    (chosen _ (begins_name (byte_at rest 0)) _ _ (name_found rest h)
    (chosen _ (begins_number rest) _ _ (number_found rest h)
    (chosen _ (is_quote (byte_at rest 0)) _ _ (quoted_found rest h)
    (chosen _ (begins_line_comment rest) _ _ (line_comment_found rest)
    (chosen _ (begins_block_comment rest) _ _ (block_comment_found rest h)
    (chosen _ (byte_at rest 0 == 35) _ _ (hash_found opens rest h)
    (chosen _ (is_splice rest) _ _ (whole_found _ 1 rule.LeftOut (omega arith) h)
    (punctuator_found rest h))))))))
