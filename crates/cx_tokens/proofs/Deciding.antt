-- What begins with bytes that decide it stays whatever comes behind them.
use Rattle.std.proofs.Common.{◌≡◌, ℕ, ◌+◌, ◌<◌, ◌≤◌, Bool, true, false, not, cond, List, [], ◌∷◌, ◌++◌, length, drop, take, min, refl, ap, sym, ◌∙◌, subst, arith, length-drop, length-append, ltb, ◌&&◌, ◌||◌}
use Rattle.std.specs.Prelude.{◌==◌, codes}
use Rattle.std.specs.Str.{bytes_eq}
use Rattle.std.proofs.lemmas.Bool.{eqb-true, leb-true, lt-ltb, ltb-true, ltb-false, le-ltb}
use Rattle.std.proofs.lemmas.List.{drop-append-le, take-append-le}
use Rattle.cx_base.specs.declared.rule.Rule.TheVariants as rule
use Rattle.cx_tokens.specs.declared.shapes.Flaw.{Flaw}
use Rattle.cx_tokens.specs.Bytes.{begins_name, byte_at, is_blank, is_digit, is_name_byte, is_space_or_tab, is_splice, place_where, run_of}
use Rattle.cx_tokens.specs.Space.{behind_hash, begins_block_comment, begins_line_comment, block_comment, comment_body, comment_end_here, hash, is_marker, line_comment, line_feed_here, line_size, splices, word_of}
use Rattle.cx_tokens.specs.Literals.{quoted, quoted_at}
use Rattle.cx_tokens.specs.Pieces.{Found, white, token, faulty, broken, flaw, size_of, unless_faulty}
use Rattle.cx_tokens.specs.Names.{is_left_out_name, is_quote, longest_name, name, name_kind, name_size, name_with}
use Rattle.cx_tokens.specs.Numbers.{are_digits, begins_number, digits_of, goes_on, literal, number, number_more, number_size, number_type, radix_of, suffix_of, suffixed, tail_of, typed, value_of}
use Rattle.cx_tokens.specs.Punctuators.{punctuator}
use Rattle.cx_tokens.specs.Cut.{found_at}
use Rattle.cx_tokens.specs.Decided.{is_decided, told_by}
use Rattle.cx_base.specs.declared.int_type.IntType.{IntType}
use Rattle.cx_ints.specs.declared.literals.Suffix.{Suffix}
use Rattle.std.proofs.Common.{Option, None, Some}
use Rattle.cx_tokens.proofs.DecidedLiterals.{quoted_at_stays}
use Rattle.cx_tokens.proofs.Fit.{is_found}
use Rattle.cx_tokens.proofs.DecidedPlaces.{byte_stays, comment_near, first_near, least_stays, line_feed_near, place_before, place_drop, place_stays, splice_near}

same_size : (c : Bool) (f g : Found) (n : ℕ) → size_of f ≡ n → size_of g ≡ n → size_of (cond c f g) ≡ n
same_size true f g n h k = h
same_size false f g n h k = k

size_unless : (fs : List Flaw) (found : Found) → size_of (unless_faulty fs found) ≡ size_of found
size_unless [] found = refl
size_unless (f ∷ fs) found = refl

-- names
size_name : (rest : List ℕ) → size_of (name rest) ≡ name_size rest
unfolding name name_with
size_name rest =
    let n = name_size rest in
    let text = take n rest in
    same_size (ltb longest_name n) (broken n rule.LongName) _ n refl
    (same_size (is_left_out_name text (byte_at rest n)) (broken n rule.LeftOut) (token n (name_kind text)) n refl refl)

name_stays : (rest more : List ℕ) → size_of (name rest) + 3 ≤ length rest → name (rest ++ more) ≡ name rest
unfolding name
name_stays rest more h =
    let n = name_size rest in
    let fits : n + 3 ≤ length rest = omega (arith, size_name rest) in
    let run : run_of is_name_byte (drop 1 rest ++ more) ≡ run_of is_name_byte (drop 1 rest) =
    place_stays (λ xs. not (is_name_byte (byte_at xs 0))) 1 (first_near is_name_byte) (omega arith) (drop 1 rest) more (omega (arith, length-drop 1 rest)) in
    let size : name_size (rest ++ more) ≡ n =
    ap (λ xs. 1 + run_of is_name_byte xs) (drop-append-le 1 rest more (omega arith)) ∙ ap (λ x. 1 + x) run in
    ap (λ x. name_with x (take x (rest ++ more)) (byte_at (rest ++ more) x)) size
    ∙ ap (λ xs. name_with n xs (byte_at (rest ++ more) n)) (take-append-le n rest more (omega arith))
    ∙ ap (λ b. name_with n (take n rest) b) (byte_stays rest more n (omega arith))

-- numbers
size_typed : (n value : ℕ) (ty : Option IntType) → size_of (typed n value ty) ≡ n
size_typed n value None = refl
size_typed n value (Some ty) = refl

size_suffixed : (n : ℕ) (run : List ℕ) (suffix : Option Suffix) → size_of (suffixed n run suffix) ≡ n
size_suffixed n run None = refl
size_suffixed n run (Some suffix) =
    let value = value_of (radix_of run) (digits_of run) in
    let ty = number_type value (radix_of run) suffix in
    same_size (are_digits (digits_of run)) (typed n value ty) (broken n rule.BadNumber) n (size_typed n value ty) refl

size_number : (rest : List ℕ) → size_of (number rest) ≡ number_size rest
unfolding number
size_number rest = size_suffixed (number_size rest) (take (number_size rest) rest) (suffix_of (tail_of (take (number_size rest) rest)))

goes_same : (before last : ℕ) (rest more : List ℕ) → 2 ≤ length rest → goes_on before last (rest ++ more) ≡ goes_on before last rest
goes_same before last [] more h = absurd (omega arith)
goes_same before last (a ∷ []) more h = absurd (omega arith)
goes_same before last (a ∷ b ∷ rest) more h = refl

chosen_more : (n p q : ℕ) (c d : Bool) → d ≡ c → (p + 2 ≤ n → q ≡ p) → cond c (1 + p) 0 + 2 ≤ 1 + n → cond d (1 + q) 0 ≡ cond c (1 + p) 0
chosen_more n p q true d e f h = ap (λ x. cond x (1 + q) 0) e ∙ ap (λ x. 1 + x) (f (omega arith))
chosen_more n p q false d e f h = ap (λ x. cond x (1 + q) 0) e

more_stays : (before last : ℕ) (bytes more : List ℕ) → number_more before last bytes + 2 ≤ length bytes → number_more before last (bytes ++ more) ≡ number_more before last bytes
more_stays before last [] more h = absurd (omega arith)
more_stays before last (b ∷ bytes) more h =
    chosen_more (length bytes) (number_more last b bytes) (number_more last b (bytes ++ more)) (goes_on before last (b ∷ bytes)) (goes_on before last (b ∷ bytes ++ more))
    (goes_same before last (b ∷ bytes) more (omega arith)) (more_stays last b bytes more) (omega arith)

number_stays : (rest more : List ℕ) → size_of (number rest) + 3 ≤ length rest → number (rest ++ more) ≡ number rest
unfolding number
number_stays rest more h =
    let n = number_size rest in
    let fits : n + 3 ≤ length rest = omega (arith, size_number rest) in
    let size : number_size (rest ++ more) ≡ n =
    ap (λ b. 1 + number_more 0 b (drop 1 (rest ++ more))) (byte_stays rest more 0 (omega arith))
    ∙ ap (λ xs. 1 + number_more 0 (byte_at rest 0) xs) (drop-append-le 1 rest more (omega arith))
    ∙ ap (λ x. 1 + x) (more_stays 0 (byte_at rest 0) (drop 1 rest) more (omega (arith, length-drop 1 rest))) in
    ap (λ x. literal x (take x (rest ++ more))) size ∙ ap (λ xs. literal n xs) (take-append-le n rest more (omega arith))

-- literals
quoted_stays : (rest more : List ℕ) → is_quote (byte_at rest 0) ≡ true → size_of (quoted rest) + 3 ≤ length rest → quoted (rest ++ more) ≡ quoted rest
unfolding quoted
quoted_stays rest more q h =
    ap (λ b. quoted_at b (drop 1 (rest ++ more))) (byte_stays rest more 0 (omega arith))
    ∙ ap (λ xs. quoted_at (byte_at rest 0) xs) (drop-append-le 1 rest more (omega arith))
    ∙ quoted_at_stays (byte_at rest 0) (drop 1 rest) more q (omega (arith, length-drop 1 rest))

-- comments
abbrev splice_flaws : ℕ → ℕ → ℕ → List Flaw
splice_flaws n all p = cond (ltb p (min n all)) (flaw p 1 rule.LeftOut ∷ []) []

least_flaws : (n all p : ℕ) (c : Bool) → n ≤ all → ltb p n ≡ c → splice_flaws n all p ≡ splice_flaws n n (min n p)
least_flaws n all p true h e =
    let l : p < n = ltb-true p n e in
    let m : min n p ≡ p = omega arith in
    let i : min n all ≡ min n n = omega arith in
    ap (λ x. cond (ltb p x) (flaw p 1 rule.LeftOut ∷ []) []) i ∙ ap (splice_flaws n n) (sym m)
least_flaws n all p false h e =
    let l : n ≤ p = ltb-false p n e in
    let x : ltb p (min n all) ≡ false = le-ltb _ _ (omega arith) in
    let y : ltb (min n p) (min n n) ≡ false = le-ltb _ _ (omega arith) in
    ap (λ c. cond c (flaw p 1 rule.LeftOut ∷ []) []) x ∙ ap (λ c. cond c (flaw (min n p) 1 rule.LeftOut ∷ []) []) (sym y)

splices_stay : (n : ℕ) (rest more : List ℕ) → n + 3 ≤ length rest → splices n (rest ++ more) ≡ splices n rest
splices_stay n rest more h =
    least_flaws n (length (rest ++ more)) (place_where is_splice (rest ++ more)) _ (omega (arith, length-append rest more)) refl
    ∙ ap (splice_flaws n n) (least_stays is_splice 3 n splice_near (omega arith) rest more (omega arith))
    ∙ sym (least_flaws n (length rest) (place_where is_splice rest) _ (omega arith) refl)

line_size_stays : (n : ℕ) (rest more : List ℕ) → line_size n rest + 3 ≤ length rest → line_size n (rest ++ more) ≡ line_size n rest
line_size_stays n rest more h =
    ap (λ xs. n + place_where line_feed_here xs) (drop-append-le n rest more (omega arith))
    ∙ ap (λ x. n + x) (place_stays line_feed_here 1 line_feed_near (omega arith) (drop n rest) more (omega (arith, length-drop n rest)))

line_comment_stays : (rest more : List ℕ) → size_of (line_comment rest) + 3 ≤ length rest → line_comment (rest ++ more) ≡ line_comment rest
unfolding line_comment
line_comment_stays rest more h =
    let n = line_size 2 rest in
    let fits : n + 3 ≤ length rest = omega (arith, size_unless (splices n rest) (white n)) in
    ap (λ x. unless_faulty (splices x (rest ++ more)) (white x)) (line_size_stays 2 rest more fits)
    ∙ ap (λ fs. unless_faulty fs (white n)) (splices_stay n rest more fits)

abbrev comment_of : Bool → ℕ → List ℕ → Found
comment_of closed n rest = cond closed (unless_faulty (splices (n + 4) rest) (white (n + 4))) (faulty (n + 2) (flaw 0 2 rule.OpenComment) (splices (n + 2) rest))

comment_case : (n : ℕ) (rest more : List ℕ) (c : Bool) → ltb n (length (drop 2 rest)) ≡ c → size_of (comment_of c n rest) + 3 ≤ length rest
    → place_where comment_end_here (drop 2 rest) ≡ n
    → comment_of (ltb (comment_body (rest ++ more)) (length (drop 2 (rest ++ more)))) (comment_body (rest ++ more)) (rest ++ more) ≡ comment_of c n rest
comment_case n rest more false e h p =
    let l = ltb-false n (length (drop 2 rest)) e in
    absurd (omega (arith, length-drop 2 rest))
comment_case n rest more true e h p =
    let fits : n + 4 + 3 ≤ length rest = omega (arith, size_unless (splices (n + 4) rest) (white (n + 4))) in
    let d = drop-append-le 2 rest more (omega arith) in
    let body : comment_body (rest ++ more) ≡ n =
    ap (place_where comment_end_here) d ∙ place_stays comment_end_here 2 comment_near (omega arith) (drop 2 rest) more (omega (arith, length-drop 2 rest, p)) ∙ p in
    let closed : ltb n (length (drop 2 (rest ++ more))) ≡ true = lt-ltb _ _ (omega (arith, length-drop 2 (rest ++ more), length-append rest more)) in
    ap (λ x. comment_of (ltb x (length (drop 2 (rest ++ more)))) x (rest ++ more)) body
    ∙ ap (λ c. comment_of c n (rest ++ more)) closed
    ∙ ap (λ fs. unless_faulty fs (white (n + 4))) (splices_stay (n + 4) rest more fits)

block_comment_stays : (rest more : List ℕ) → size_of (block_comment rest) + 3 ≤ length rest → block_comment (rest ++ more) ≡ block_comment rest
unfolding block_comment
block_comment_stays rest more h = comment_case (comment_body rest) rest more (ltb (comment_body rest) (length (drop 2 rest))) refl h refl

-- markers, whose line is there
feed_not : (test : ℕ → Bool) → test 10 ≡ false → (bytes : List ℕ) → line_feed_here bytes ≡ true → not (test (byte_at bytes 0)) ≡ true
feed_not test t bytes h =
    let e : byte_at bytes 0 ≡ 10 = eqb-true (byte_at bytes 0) 10 h in
    ap (λ b. not (test b)) e ∙ ap not t

-- a run of what is no line feed ends in the line
record RunStays (test : ℕ → Bool) (bytes more : List ℕ) : Type 0 where
  same : run_of test (bytes ++ more) ≡ run_of test bytes
  within : run_of test bytes + 3 ≤ length bytes
  further : place_where line_feed_here (drop (run_of test bytes) bytes) + 3 ≤ length (drop (run_of test bytes) bytes)

run_stays : (test : ℕ → Bool) → test 10 ≡ false → (bytes more : List ℕ) → place_where line_feed_here bytes + 3 ≤ length bytes → RunStays test bytes more
run_stays test t bytes more h =
    let l : run_of test bytes ≤ place_where line_feed_here bytes = place_before line_feed_here (λ xs. not (test (byte_at xs 0))) (feed_not test t) bytes in
    let d = place_drop line_feed_here (run_of test bytes) bytes l in
    record {
      same = place_stays (λ xs. not (test (byte_at xs 0))) 1 (first_near test) (omega arith) bytes more (omega arith);
      within = omega arith;
      further = omega (arith, d, length-drop (run_of test bytes) bytes);
    }

abbrev marks_line : List ℕ → List ℕ → Bool
marks_line behind word = is_digit (byte_at behind 0) || (bytes_eq word (codes "pragma") || bytes_eq word (codes "line"))

marker_stays : (rest more : List ℕ) → line_size 1 rest + 3 ≤ length rest → is_marker (rest ++ more) ≡ is_marker rest
marker_stays rest more h =
    let first = drop 1 rest in
    let d : drop 1 (rest ++ more) ≡ first ++ more = drop-append-le 1 rest more (omega arith) in
    let blank = run_stays is_space_or_tab refl first more (omega (arith, length-drop 1 rest)) in
    let n = run_of is_space_or_tab first in
    let behind : behind_hash (rest ++ more) ≡ behind_hash rest ++ more =
    ap (λ xs. drop (run_of is_space_or_tab xs) xs) d ∙ ap (λ x. drop x (first ++ more)) blank.same ∙ drop-append-le n first more (omega (arith, blank.within)) in
    let word = run_stays is_name_byte refl (behind_hash rest) more blank.further in
    let spelled : word_of (behind_hash rest ++ more) ≡ word_of (behind_hash rest) =
    ap (λ x. take x (behind_hash rest ++ more)) word.same ∙ take-append-le (run_of is_name_byte (behind_hash rest)) (behind_hash rest) more (omega (arith, word.within)) in
    ap (λ xs. marks_line xs (word_of xs)) behind
    ∙ ap (λ w. marks_line (behind_hash rest ++ more) w) spelled
    ∙ ap (λ b. is_digit b || (bytes_eq (word_of (behind_hash rest)) (codes "pragma") || bytes_eq (word_of (behind_hash rest)) (codes "line")))
    (byte_stays (behind_hash rest) more 0 (omega (arith, word.within)))

hash_stays : (rest more : List ℕ) → line_size 1 rest + 3 ≤ length rest → hash true (rest ++ more) ≡ hash true rest
unfolding hash
hash_stays rest more h =
    ap (λ c. cond c (white (line_size 1 (rest ++ more))) (faulty 1 (flaw 0 1 rule.Directive) [])) (marker_stays rest more h)
    ∙ ap (λ n. cond (is_marker rest) (white n) (faulty 1 (flaw 0 1 rule.Directive) [])) (line_size_stays 1 rest more h)

marker_fits : (c : Bool) (n k : ℕ) → n + 3 ≤ k → size_of (cond c (white n) (faulty 1 (flaw 0 1 rule.Directive) [])) ≤ k
marker_fits true n k h = omega arith
marker_fits false n k h = omega arith

hash_fits : (rest : List ℕ) → line_size 1 rest + 3 ≤ length rest → size_of (hash true rest) ≤ length rest
unfolding hash
hash_fits rest h = marker_fits (is_marker rest) (line_size 1 rest) (length rest) h

-- a choice that stays, if what is chosen stays where it is no longer than so
chosen_stays : (n : ℕ) (c : Bool) (f g f' g' : Found) → (c ≡ true → size_of f + 3 ≤ n → f' ≡ f) → (c ≡ false → size_of g + 3 ≤ n → g' ≡ g)
    → size_of (cond c f g) + 3 ≤ n → cond c f' g' ≡ cond c f g
chosen_stays n true f g f' g' h k l = h refl l
chosen_stays n false f g f' g' h k l = k refl l

punctuator_stays : (a b c d : ℕ) (rest more : List ℕ) → punctuator (a ∷ b ∷ c ∷ d ∷ rest ++ more) ≡ punctuator (a ∷ b ∷ c ∷ d ∷ rest)
unfolding punctuator
punctuator_stays a b c d rest more = refl

no_marker : (opens : Bool) (first : Bool) → (opens && first) ≡ false → first ≡ true → opens ≡ false
no_marker true first h e = cc
no_marker false first h e = refl

hash_apart : (opens : Bool) (rest more : List ℕ) → opens ≡ false → hash opens (rest ++ more) ≡ hash opens rest
unfolding hash
hash_apart true rest more e = cc
hash_apart false rest more e = refl

other_stays : (opens : Bool) (a b c d : ℕ) (rest more : List ℕ) → (opens && (a == 35)) ≡ false → size_of (found_at opens (a ∷ b ∷ c ∷ d ∷ rest)) + 3 ≤ length (a ∷ b ∷ c ∷ d ∷ rest)
    → found_at opens (a ∷ b ∷ c ∷ d ∷ rest ++ more) ≡ found_at opens (a ∷ b ∷ c ∷ d ∷ rest)
unfolding found_at
other_stays opens a b c d rest more m h =
    let xs = a ∷ b ∷ c ∷ d ∷ rest in
    let ys = a ∷ b ∷ c ∷ d ∷ rest ++ more in
    let n = length xs in
    chosen_stays n (is_blank a) (white 1) _ (white 1) _ (λ _ _. refl) (λ _.
    chosen_stays n (begins_name a) (name xs) _ (name ys) _ (λ _. name_stays xs more) (λ _.
    chosen_stays n (begins_number xs) (number xs) _ (number ys) _ (λ _. number_stays xs more) (λ _.
    chosen_stays n (is_quote a) (quoted xs) _ (quoted ys) _ (λ e. quoted_stays xs more e) (λ _.
    chosen_stays n (begins_line_comment xs) (line_comment xs) _ (line_comment ys) _ (λ _. line_comment_stays xs more) (λ _.
    chosen_stays n (begins_block_comment xs) (block_comment xs) _ (block_comment ys) _ (λ _. block_comment_stays xs more) (λ _.
    chosen_stays n (a == 35) (hash opens xs) _ (hash opens ys) _ (λ e _. hash_apart opens xs more (no_marker opens (a == 35) m e)) (λ _.
    chosen_stays n (is_splice xs) (broken 1 rule.LeftOut) (punctuator xs) (broken 1 rule.LeftOut) (punctuator ys) (λ _ _. refl) (λ _ _. punctuator_stays a b c d rest more)))))))) h

marker_found : (rest : List ℕ) → found_at true (35 ∷ rest) ≡ hash true (35 ∷ rest)
unfolding found_at
marker_found rest = refl

both_true : (c d : Bool) → (c && d) ≡ true → (c ≡ true) × (d ≡ true)
both_true true d h = (refl, h)
both_true false d h = cc

stays_by : (opens : Bool) (a b c d : ℕ) (rest more : List ℕ) (m : Bool) → (opens && (a == 35)) ≡ m
    → cond m (line_size 1 (a ∷ b ∷ c ∷ d ∷ rest)) (size_of (found_at opens (a ∷ b ∷ c ∷ d ∷ rest))) + 3 ≤ length (a ∷ b ∷ c ∷ d ∷ rest)
    → found_at opens (a ∷ b ∷ c ∷ d ∷ rest ++ more) ≡ found_at opens (a ∷ b ∷ c ∷ d ∷ rest)
stays_by opens a b c d rest more false e h = other_stays opens a b c d rest more e h
stays_by opens a b c d rest more true e h =
    let both = both_true opens (a == 35) e in
    let first : a ≡ 35 = eqb-true a 35 both.1 in
    let tail = b ∷ c ∷ d ∷ rest in
    let k : line_size 1 (35 ∷ tail) + 3 ≤ length (35 ∷ tail) = h in
    subst (λ x. found_at opens (x ∷ tail ++ more) ≡ found_at opens (x ∷ tail)) (sym first)
    (subst (λ o. found_at o (35 ∷ tail ++ more) ≡ found_at o (35 ∷ tail)) (sym both.0)
    (marker_found (tail ++ more) ∙ hash_stays (35 ∷ tail) more k ∙ sym (marker_found tail)))

pub told_within : (opens : Bool) (rest : List ℕ) → is_decided opens rest ≡ true → told_by opens rest + 3 ≤ length rest
told_within opens rest h = leb-true _ _ h

some_by : (c : Bool) (n m k : ℕ) → 0 < n → 0 < m → cond c n m + 3 ≤ k → 4 ≤ k
some_by true n m k h i l = omega arith
some_by false n m k h i l = omega arith

few : (opens : Bool) (a : ℕ) (rest : List ℕ) → length rest ≤ 2 → is_decided opens (a ∷ rest) ≡ true → ⊥
few opens a rest l h =
    let some = (is_found opens (a ∷ rest) (omega arith)).some in
    let k = some_by (opens && (a == 35)) (line_size 1 (a ∷ rest)) (size_of (found_at opens (a ∷ rest))) (length (a ∷ rest)) (omega arith) some (told_within opens (a ∷ rest) h) in
    omega arith

pub decided_stays : (opens : Bool) (rest more : List ℕ) → is_decided opens rest ≡ true → found_at opens (rest ++ more) ≡ found_at opens rest
decided_stays opens [] more h = let k = told_within opens [] h in absurd (omega arith)
decided_stays opens (a ∷ []) more h = absurd (few opens a [] (omega arith) h)
decided_stays opens (a ∷ b ∷ []) more h = absurd (few opens a (b ∷ []) (omega arith) h)
decided_stays opens (a ∷ b ∷ c ∷ []) more h = absurd (few opens a (b ∷ c ∷ []) (omega arith) h)
decided_stays opens (a ∷ b ∷ c ∷ d ∷ rest) more h =
    stays_by opens a b c d rest more (opens && (a == 35)) refl (told_within opens (a ∷ b ∷ c ∷ d ∷ rest) h)

fits_by : (opens : Bool) (rest : List ℕ) (m : Bool) → (opens && (byte_at rest 0 == 35)) ≡ m
    → cond m (line_size 1 rest) (size_of (found_at opens rest)) + 3 ≤ length rest → size_of (found_at opens rest) ≤ length rest
fits_by opens rest false e h = omega arith
fits_by opens [] true e h = absurd (omega arith)
fits_by opens (a ∷ rest) true e h =
    let both = both_true opens (a == 35) e in
    let first : a ≡ 35 = eqb-true a 35 both.1 in
    let k : line_size 1 (35 ∷ rest) + 3 ≤ length (35 ∷ rest) = h in
    subst (λ x. size_of (found_at opens (x ∷ rest)) ≤ length (x ∷ rest)) (sym first)
    (subst (λ o. size_of (found_at o (35 ∷ rest)) ≤ length (35 ∷ rest)) (sym both.0)
    (subst (λ f. size_of f ≤ length (35 ∷ rest)) (sym (marker_found rest)) (hash_fits (35 ∷ rest) k)))

pub decided_fits : (opens : Bool) (rest : List ℕ) → is_decided opens rest ≡ true → size_of (found_at opens rest) ≤ length rest
decided_fits opens rest h = fits_by opens rest (opens && (byte_at rest 0 == 35)) refl (told_within opens rest h)
