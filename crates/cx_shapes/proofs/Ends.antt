-- What told ends say of the items of a list.
use Rattle.std.proofs.Common.{◌≡◌, ℕ, zero, suc, ◌+◌, ◌-◌, ◌^◌, ◌<◌, ◌≤◌, ◌==◌, ◌&&◌, nat_lt, leb, Bool, true, false, List, [], ◌∷◌, ◌++◌, length, map, take, get_or, slice_get, Option, None, Some, inl, inr, refl, sym, ap, subst, ◌∙◌, arith, eqb-true, eq-eqb, if◌then◌else◌}
use Rattle.std.proofs.lemmas.Bool.{cases_Bool, lt-ltb, leb-true, leb-false}
use Rattle.std.proofs.lemmas.List.{take_all, take_more}
use Rattle.std.specs.Prelude.{option_map, IfSome}
use Rattle.std.specs.List.Sorted.{IsNonDecreasing, IsPartitionPoint}
use Rattle.cx_type_defs.proofs.Lists.{some_inj, option_map-some}
use Rattle.cx_shapes.specs.declared.shape.Shape.{Shape}
use Rattle.cx_shapes.specs.declared.way.Piece.{Piece}
use Rattle.cx_shapes.specs.Forms.{Form, Forms, Leaf, Row, End, More, Part, Found, later, further, item, search, size, sizes, nodes, nodes_in, forms_of, form_of, are_ends, told, start_at, AllSmall, AreListed}
use Rattle.cx_shapes.specs.Ways.{piece_seen}
use Rattle.cx_shapes.proofs.Counting.{nodes_pos, sizes_more, sizes_push}
use Rattle.cx_shapes.proofs.Numbering.{item_fits, not_lt}

pub both : (a b : Bool) → a && b ≡ true → (a ≡ true) × (b ≡ true)
both true b h = (refl, h)
both false b h = absurd (cc)

-- a list that is small enough is told rightly
pub told_right : (es : List ℕ) (fs : List Form) → sizes (told es fs) < 2 ^ 62 → are_ends 0 fs es ≡ true
unfolding told
told_right es fs h = elim (cases_Bool (are_ends 0 fs es)) as (λ _. are_ends 0 fs es ≡ true) [
  | inl e ↦ e
  | inr e ↦ (let k : sizes (if false then forms_of fs else More (Row (2 ^ 62) Leaf) End) < 2 ^ 62 = subst (λ b. sizes (if b then forms_of fs else More (Row (2 ^ 62) Leaf) End) < 2 ^ 62) e h in absurd (omega arith))
]

pub told_forms : (es : List ℕ) (fs : List Form) → are_ends 0 fs es ≡ true → told es fs ≡ forms_of fs
unfolding told
told_forms es fs h = ap (λ b. if b then forms_of fs else More (Row (2 ^ 62) Leaf) End) h

pub ends_length : (n : ℕ) (fs : List Form) (es : List ℕ) → are_ends n fs es ≡ true → length es ≡ length fs
ends_length n [] [] h = refl
ends_length n [] (e ∷ es) h = absurd (cc)
ends_length n (f ∷ fs) [] h = absurd (cc)
ends_length n (f ∷ fs) (e ∷ es) h = let w = both (e == n + size f) (are_ends e fs es) h in omega (arith, ends_length e fs es w.1)

-- where an item begins
pub starts : (n : ℕ) (fs : List Form) (es : List ℕ) (i : ℕ) → are_ends n fs es ≡ true → start_at n es i ≡ n + sizes (forms_of (take i fs))
starts n [] [] zero h = omega arith
starts n [] [] (suc i) h = omega arith
starts n [] (e ∷ es) i h = absurd (cc)
starts n (f ∷ fs) [] i h = absurd (cc)
starts n (f ∷ fs) (e ∷ es) zero h = omega arith
starts n (f ∷ fs) (e ∷ es) (suc i) h =
    let w = both (e == n + size f) (are_ends e fs es) h in
    let x = eqb-true e (n + size f) w.0 in
    let y = starts e fs es i w.1 in
    omega arith

pub end_get : (n : ℕ) (es : List ℕ) (i d : ℕ) → i < length es → start_at n es (suc i) ≡ get_or es i d
end_get n [] i d h = absurd (omega arith)
end_get n (e ∷ es) zero d h = refl
end_get n (e ∷ es) (suc i) d h = end_get e es i d (omega arith)

ends_above : (n : ℕ) (fs : List Form) (es : List ℕ) (i d : ℕ) → are_ends n fs es ≡ true → i < length es → n ≤ get_or es i d
ends_above n fs es i d h l = let x = starts n fs es (suc i) h in let y = end_get n es i d l in omega arith

pub ends_rise : (n : ℕ) (fs : List Form) (es : List ℕ) → are_ends n fs es ≡ true → IsNonDecreasing es
ends_rise n fs [] h i j d l k = absurd (omega arith)
ends_rise n [] (e ∷ es) h i j d l k = absurd (cc)
ends_rise n (f ∷ fs) (e ∷ es) h zero zero d l k = omega arith
ends_rise n (f ∷ fs) (e ∷ es) h zero (suc j) d l k = ends_above e fs es j d (both (e == n + size f) (are_ends e fs es) h).1 (omega arith)
ends_rise n (f ∷ fs) (e ∷ es) h (suc i) zero d l k = absurd (omega arith)
ends_rise n (f ∷ fs) (e ∷ es) h (suc i) (suc j) d l k = ends_rise e fs es (both (e == n + size f) (are_ends e fs es) h).1 i j d (omega arith) (omega arith)

-- one more item
pub ends_push : (n : ℕ) (fs : List Form) (es : List ℕ) (f : Form) (e : ℕ) → are_ends n fs es ≡ true → e ≡ n + sizes (forms_of fs) + size f → are_ends n (fs ++ f ∷ []) (es ++ e ∷ []) ≡ true
ends_push n [] [] f e h k = let z : e ≡ n + size f = omega arith in ap (λ b. b && true) (eq-eqb e (n + size f) z)
ends_push n [] (d ∷ es) f e h k = absurd (cc)
ends_push n (g ∷ fs) [] f e h k = absurd (cc)
ends_push n (g ∷ fs) (d ∷ es) f e h k =
    let w = both (d == n + size g) (are_ends d fs es) h in
    let x = eqb-true d (n + size g) w.0 in
    ap (λ b. b && are_ends d (fs ++ f ∷ []) (es ++ e ∷ [])) w.0 ∙ ends_push d fs es f e w.1 (omega arith)

pub sizes_all : (es : List ℕ) (fs : List Form) → sizes (told es fs) < 2 ^ 62 → start_at 0 es (length fs) ≡ sizes (told es fs)
sizes_all es fs h =
    let r = told_right es fs h in
    let x = starts 0 fs es (length fs) r in
    let y = ap (λ l. sizes (forms_of l)) (take_all (length fs) fs (omega arith)) in
    let z = ap sizes (told_forms es fs r) in
    omega arith

-- the item with an index

abbrev pub form_part : ℕ → Form → Part
form_part n f = (n, f)

deeper_item : (n k : ℕ) (o : Option Form) → option_map (further n) (option_map (form_part k) o) ≡ option_map (form_part (n + k)) o
deeper_item n k None = refl
deeper_item n k (Some f) = refl

item_is : (fs : List Form) (i : ℕ) → item (forms_of fs) i ≡ option_map (form_part (sizes (forms_of (take i fs)))) (slice_get fs i)
item_is [] i = refl
item_is (f ∷ fs) zero = refl
item_is (f ∷ fs) (suc i) = ap (option_map (further (size f))) (item_is fs i) ∙ deeper_item (size f) (sizes (forms_of (take i fs))) (slice_get fs i)

pub get_form : (xs : List Shape) (i : ℕ) → slice_get (map form_of xs) i ≡ option_map form_of (slice_get xs i)
get_form [] i = refl
get_form (x ∷ xs) zero = refl
get_form (x ∷ xs) (suc i) = get_form xs i

abbrev pub as_part : ℕ → Shape → Part
as_part n x = (n, form_of x)

item_told : (xs : List Shape) (es : List ℕ) (i : ℕ) → AllSmall (told es (map form_of xs)) → item (told es (map form_of xs)) i ≡ option_map (as_part (start_at 0 es i)) (slice_get xs i)
item_told xs es i h =
    let r = told_right es (map form_of xs) h.few_parts in
    let s : sizes (forms_of (take i (map form_of xs))) ≡ start_at 0 es i = sym (starts 0 (map form_of xs) es i r ∙ zero_plus (sizes (forms_of (take i (map form_of xs))))) in
    ap (λ l. item l i) (told_forms es (map form_of xs) r) ∙ item_is (map form_of xs) i ∙ ap (λ n. option_map (form_part n) (slice_get (map form_of xs) i)) s ∙ ap (option_map (form_part (start_at 0 es i))) (get_form xs i) ∙ joined (start_at 0 es i) (slice_get xs i)
  where
    zero_plus : (n : ℕ) → 0 + n ≡ n
    zero_plus n = omega arith

    joined : (n : ℕ) (o : Option Shape) → option_map (form_part n) (option_map form_of o) ≡ option_map (as_part n) o
    joined n None = refl
    joined n (Some x) = refl

pub item_gives : (xs : List Shape) (es : List ℕ) (i : ℕ) (x : Shape) (n : ℕ) → AllSmall (told es (map form_of xs)) → slice_get xs i ≡ Some x → n ≡ start_at 0 es i → Some (as_part n x) ≡ item (told es (map form_of xs)) i
item_gives xs es i x n h e k = ap (λ m. Some (as_part m x)) k ∙ sym (item_told xs es i h ∙ ap (option_map (as_part (start_at 0 es i))) e)

pub no_item : (xs : List Shape) (es : List ℕ) (i : ℕ) → AllSmall (told es (map form_of xs)) → slice_get xs i ≡ None → None ≡ item (told es (map form_of xs)) i
no_item xs es i h e = sym (item_told xs es i h ∙ ap (option_map (as_part (start_at 0 es i))) e)

pub item_within : (fs : Forms) (i : ℕ) (r : Option Piece) → option_map piece_seen r ≡ item fs i → IfSome r (λ p. p.from + size (form_of p.shape.now) ≤ sizes fs)
item_within fs i None e = tt
item_within fs i (Some p) e = item_fits fs i (p.from, form_of p.shape.now) (sym e)

-- the item that holds a number

search_in : (fs : List Form) (j i : ℕ) (f : Form) → slice_get fs i ≡ Some f → sizes (forms_of (take i fs)) ≤ j → j < sizes (forms_of (take (suc i) fs)) → search (forms_of fs) j ≡ Some (i, sizes (forms_of (take i fs)), f)
search_in [] j i f e l r = absurd (cc)
search_in (g ∷ fs) j zero f e l r =
    let k : j < size g = omega arith in
    ap (λ b. if b then Some (0, 0, g) else option_map (later (size g)) (search (forms_of fs) (j - size g))) (lt-ltb j (size g) k) ∙ ap (λ h. Some (0, 0, h)) (some_inj g f e)
search_in (g ∷ fs) j (suc i) f e l r =
    let k : size g ≤ j = omega arith in
    ap (λ b. if b then Some (0, 0, g) else option_map (later (size g)) (search (forms_of fs) (j - size g))) (not_lt j (size g) k)
    ∙ ap (option_map (later (size g))) (search_in fs (j - size g) i f e (omega arith) (omega arith))

search_out : (fs : List Form) (j : ℕ) → sizes (forms_of fs) ≤ j → search (forms_of fs) j ≡ None
search_out [] j l = refl
search_out (g ∷ fs) j l =
    let k : size g ≤ j = omega arith in
    ap (λ b. if b then Some (0, 0, g) else option_map (later (size g)) (search (forms_of fs) (j - size g))) (not_lt j (size g) k)
    ∙ ap (option_map (later (size g))) (search_out fs (j - size g) (omega arith))

get_none : {A : Type 0} (xs : List A) (i : ℕ) → slice_get xs i ≡ None → length xs ≤ i
get_none [] i e = omega arith
get_none (x ∷ xs) zero e = absurd (cc)
get_none (x ∷ xs) (suc i) e = omega (arith, get_none xs i e)

get_some : {A : Type 0} (xs : List A) (i : ℕ) (x : A) → slice_get xs i ≡ Some x → i < length xs
get_some [] i x e = absurd (cc)
get_some (a ∷ xs) zero x e = omega arith
get_some (a ∷ xs) (suc i) x e = omega (arith, get_some xs i x e)

abbrev pub as_found : ℕ → ℕ → Shape → Found
as_found i n x = (i, n, form_of x)

search_told : (xs : List Shape) (es : List ℕ) (j i : ℕ) → AllSmall (told es (map form_of xs)) → start_at 0 es i ≤ j → (i < length es → j < start_at 0 es (suc i))
    → search (told es (map form_of xs)) j ≡ option_map (as_found i (start_at 0 es i)) (slice_get xs i)
search_told xs es j i h l b =
    let r = told_right es (map form_of xs) h.few_parts in
    ap (λ k. search k j) (told_forms es (map form_of xs) r) ∙ go r (slice_get xs i) (get_form xs i)
  where
    go : are_ends 0 (map form_of xs) es ≡ true → (o : Option Shape) → slice_get (map form_of xs) i ≡ option_map form_of o → search (forms_of (map form_of xs)) j ≡ option_map (as_found i (start_at 0 es i)) o
    go r None e =
        let z = get_none (map form_of xs) i e in
        let x = starts 0 (map form_of xs) es i r in
        let y = ap (λ k. sizes (forms_of k)) (take_all i (map form_of xs) z) in
        search_out (map form_of xs) j (omega arith)
    go r (Some x) e =
        let z = get_some (map form_of xs) i (form_of x) e in
        let k = ends_length 0 (map form_of xs) es r in
        let from = starts 0 (map form_of xs) es i r in
        let to = starts 0 (map form_of xs) es (suc i) r in
        let within : j < start_at 0 es (suc i) = b (omega arith) in
        let y : sizes (forms_of (take i (map form_of xs))) ≡ start_at 0 es i = omega arith in
        search_in (map form_of xs) j i (form_of x) e (omega arith) (omega arith) ∙ ap (λ n. Some (i, n, form_of x)) y

pub search_gives : (xs : List Shape) (es : List ℕ) (j i : ℕ) (x : Shape) (n : ℕ) → AllSmall (told es (map form_of xs)) → start_at 0 es i ≤ j → (i < length es → j < start_at 0 es (suc i)) → slice_get xs i ≡ Some x → n ≡ start_at 0 es i
    → Some (as_found i n x) ≡ search (told es (map form_of xs)) j
search_gives xs es j i x n h l b e k = ap (λ m. Some (as_found i m x)) k ∙ sym (search_told xs es j i h l b ∙ ap (option_map (as_found i (start_at 0 es i))) e)

pub search_none : (xs : List Shape) (es : List ℕ) (j i : ℕ) → AllSmall (told es (map form_of xs)) → start_at 0 es i ≤ j → (i < length es → j < start_at 0 es (suc i)) → slice_get xs i ≡ None → None ≡ search (told es (map form_of xs)) j
search_none xs es j i h l b e = sym (search_told xs es j i h l b ∙ ap (option_map (as_found i (start_at 0 es i))) e)

-- an item that is found has fewer before it than there are forms
few_before : (fs : Forms) (j : ℕ) (x : Found) → search fs j ≡ Some x → x.0 < nodes_in fs
few_before End j x e = absurd (cc)
few_before (More f fs) j x e = elim (cases_Bool (nat_lt j (size f))) as (λ _. x.0 < nodes f + nodes_in fs) [
  | inl h ↦ (
      let w = nodes_pos f in
      let z : Some (0, 0, f) ≡ Some x = sym (ap (λ b. if b then Some (0, 0, f) else option_map (later (size f)) (search fs (j - size f))) h) ∙ e in
      let y : 0 ≡ x.0 = ap (λ (q : Found). q.0) (some_inj (0, 0, f) x z) in
      omega arith)
  | inr h ↦ (
      let w = nodes_pos f in
      let z : option_map (later (size f)) (search fs (j - size f)) ≡ Some x = sym (ap (λ b. if b then Some (0, 0, f) else option_map (later (size f)) (search fs (j - size f))) h) ∙ e in
      let m = option_map-some (later (size f)) (search fs (j - size f)) x z in
      let ih : m.0.0 < nodes_in fs = few_before fs (j - size f) m.0 m.1 in
      let y : suc m.0.0 ≡ x.0 = ap (λ (q : Found). q.0) m.2 in
      omega arith)
]

pub search_few : (xs : List Shape) (es : List ℕ) (j i : ℕ) (x : Shape) → AllSmall (told es (map form_of xs)) → start_at 0 es i ≤ j → (i < length es → j < start_at 0 es (suc i)) → slice_get xs i ≡ Some x → i < nodes_in (told es (map form_of xs))
search_few xs es j i x h l b e = few_before (told es (map form_of xs)) j (as_found i (start_at 0 es i) x) (sym (search_gives xs es j i x (start_at 0 es i) h l b e refl))

-- where the ends that are at most a number end
pub point_starts : (es : List ℕ) (j i : ℕ) → i ≤ length es → IsPartitionPoint (λ e. leb e j ≡ true) (λ e. leb e j ≡ false) es i → (start_at 0 es i ≤ j) × (i < length es → j < start_at 0 es (suc i))
point_starts es j zero l p = (omega arith, λ h. (let x = end_get 0 es zero 0 h in let y = leb-false _ _ (p.1 zero 0 (omega arith) h) in omega arith))
point_starts es j (suc i) l p =
    let x = end_get 0 es i 0 (omega arith) in
    let y = leb-true _ _ (p.0 i 0 (omega arith) (omega arith)) in
    (omega arith, λ h. (let z = end_get 0 es (suc i) 0 h in let w = leb-false _ _ (p.1 (suc i) 0 (omega arith) h) in omega arith))

pub before_get : (es : List ℕ) (i : ℕ) → 1 ≤ i → i ≤ length es → get_or es (i - 1) 0 ≡ start_at 0 es i
before_get es zero l h = absurd (omega arith)
before_get es (suc i) l h = let z : suc i - 1 ≡ i = omega arith in ap (λ k. get_or es k 0) z ∙ sym (end_get 0 es i 0 (omega arith))

map_length : (xs : List Shape) → length (map form_of xs) ≡ length xs
map_length [] = refl
map_length (x ∷ xs) = omega (arith, map_length xs)

pub as_many : (xs : List Shape) (es : List ℕ) → sizes (told es (map form_of xs)) < 2 ^ 62 → length es ≡ length xs
as_many xs es h = ends_length 0 (map form_of xs) es (told_right es (map form_of xs) h) ∙ map_length xs

pub within_ends : (xs : List Shape) (es : List ℕ) (i : ℕ) (x : Shape) → sizes (told es (map form_of xs)) < 2 ^ 62 → slice_get xs i ≡ Some x → i ≤ length es
within_ends xs es i x h e = let k = as_many xs es h in let z = get_some xs i x e in omega arith

pub all_sizes : (xs : List Shape) (es : List ℕ) → sizes (told es (map form_of xs)) < 2 ^ 62 → start_at 0 es (length xs) ≡ sizes (told es (map form_of xs))
all_sizes xs es h = ap (start_at 0 es) (sym (map_length xs)) ∙ sizes_all es (map form_of xs) h

-- ends that are told one by one

map_push : (xs : List Shape) (x : Shape) → map form_of (xs ++ x ∷ []) ≡ map form_of xs ++ form_of x ∷ []
map_push [] x = refl
map_push (y ∷ ys) x = ap (λ l. form_of y ∷ l) (map_push ys x)

pub listed_more : (xs : List Shape) (es : List ℕ) (x : Shape) (e parts : ℕ) → AreListed xs es parts → e ≡ parts + size (form_of x) → e < 2 ^ 62 → AreListed (xs ++ x ∷ []) (es ++ e ∷ []) e
listed_more xs es x e parts a k l =
    let c = a.counted in
    let p = sizes_push xs x in
    record {
      told_ends = ap (λ fs. are_ends 0 fs (es ++ e ∷ [])) (map_push xs x) ∙ ends_push 0 (map form_of xs) es (form_of x) e a.told_ends (omega arith);
      counted = omega arith;
      few = l;
    }

pub ends_more : (xs : List Shape) (es : List ℕ) (i : ℕ) (x : Shape) → i < length xs → i < length es → x ≡ get_or xs i x → are_ends 0 (map form_of (take i xs)) (take i es) ≡ true
    → get_or es i 0 ≡ sizes (forms_of (map form_of (take (i + 1) xs))) → are_ends 0 (map form_of (take (i + 1) xs)) (take (i + 1) es) ≡ true
ends_more xs es i x h l e a k =
    let s = sizes_more xs i x h e in
    ap (λ ys. are_ends 0 (map form_of ys) (take (i + 1) es)) (take_more xs i x h ∙ ap (λ z. take i xs ++ z ∷ []) (sym e))
    ∙ ap (λ fs. are_ends 0 fs (take (i + 1) es)) (map_push (take i xs) x)
    ∙ ap (are_ends 0 (map form_of (take i xs) ++ form_of x ∷ [])) (take_more es i 0 l)
    ∙ ends_push 0 (map form_of (take i xs)) (take i es) (form_of x) (get_or es i 0) a (omega arith)

pub all_told : (xs : List Shape) (es : List ℕ) (i p n : ℕ) → length xs ≡ length es → length xs ≤ i → are_ends 0 (map form_of (take i xs)) (take i es) ≡ true
    → p ≡ sizes (forms_of (map form_of (take i xs))) → n ≡ nodes_in (forms_of (map form_of (take i xs))) → (p ≡ sizes (told es (map form_of xs))) × (n ≡ nodes_in (told es (map form_of xs)))
all_told xs es i p n k l a e f =
    let u = take_all i xs l in
    let v = take_all i es (omega arith) in
    let r : are_ends 0 (map form_of xs) es ≡ true = sym (ap (λ ys. are_ends 0 (map form_of ys) (take i es)) u ∙ ap (are_ends 0 (map form_of xs)) v) ∙ a in
    let w : forms_of (map form_of (take i xs)) ≡ told es (map form_of xs) = ap (λ ys. forms_of (map form_of ys)) u ∙ sym (told_forms es (map form_of xs) r) in
    (e ∙ ap sizes w, f ∙ ap nodes_in w)

pub listed_counted : (xs : List Shape) (es : List ℕ) (p : ℕ) → AreListed xs es p → (p ≡ sizes (told es (map form_of xs))) × (p < 2 ^ 62)
listed_counted xs es p a = (a.counted ∙ ap sizes (sym (told_forms es (map form_of xs) a.told_ends)), a.few)
