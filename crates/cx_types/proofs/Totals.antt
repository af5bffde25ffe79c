-- One more part in a total.
use Rattle.std.proofs.Common.{◌≡◌, ℕ, zero, suc, ◌+◌, ◌*◌, ◌<◌, ◌≤◌, max, Bool, true, false, ◌&&◌, ◌||◌, List, [], ◌∷◌, ◌++◌, length, map, take, sum, get_or, refl, sym, ap, subst, ◌∙◌, arith}
use Rattle.std.proofs.lemmas.List.{take_more}
use Rattle.std.proofs.lemmas.List.Sums.{sum_by_push, sum_by-append}
use Rattle.cx_types.specs.declared.facts.Measure.{Measure}
use Rattle.std.specs.Prelude.{◌≢◌, Option, None, Some, is_some, unwrap_or, option_map, IfSome, if◌then◌else◌}
use Rattle.cx_type_defs.specs.declared.decl.ClassKey.{ClassKey}
use Rattle.cx_type_defs.specs.declared.decl.ClassFlags.{ClassFlags}
use Rattle.cx_type_defs.specs.declared.decl.Extent.{Extent}
use Rattle.cx_type_defs.specs.Questions.{most, all_true, any_true, end_of, rounded, widest, strictest, both, each, class_extent, depth_of, cells_of, nodes_of, literal_of, extent_of}
use Rattle.cx_types.specs.Kept.{Fitting}
use Rattle.cx_types.specs.Parts.{laid, IsGood, AreGood, IsAllSized, WasMeasured, Capped}
use Rattle.cx_type_defs.proofs.Levels.{most-append}
use Rattle.cx_types.proofs.Rows.{large-false}

map-push : {A B : Type 0} (g : A → B) (xs : List A) (x : A) → map g (xs ++ x ∷ []) ≡ map g xs ++ g x ∷ []
map-push g [] x = refl
map-push g (y ∷ ys) x = ap (λ l. g y ∷ l) (map-push g ys x)

pub most-push : (xs : List ℕ) (x : ℕ) → most (xs ++ x ∷ []) ≡ max x (most xs)
most-push [] x = omega arith
most-push (y ∷ ys) x = omega (arith, most-push ys x)

pub sum-push : (xs : List ℕ) (x : ℕ) → sum (xs ++ x ∷ []) ≡ sum xs + x
sum-push xs x = sum_by_push (λ y. y) xs x

and-assoc : (a b c : Bool) → (a && (b && c)) ≡ ((a && b) && c)
and-assoc true b c = refl
and-assoc false b c = refl

or-assoc : (a b c : Bool) → (a || (b || c)) ≡ ((a || b) || c)
or-assoc true b c = refl
or-assoc false b c = refl

and-true : (a : Bool) → (a && true) ≡ a
and-true true = refl
and-true false = refl

or-false : (a : Bool) → (a || false) ≡ a
or-false true = refl
or-false false = refl

pub all-push : (xs : List Bool) (x : Bool) → all_true (xs ++ x ∷ []) ≡ (all_true xs && x)
all-push [] x = and-true x
all-push (y ∷ ys) x = ap (λ z. y && z) (all-push ys x) ∙ and-assoc y (all_true ys) x

pub any-push : (xs : List Bool) (x : Bool) → any_true (xs ++ x ∷ []) ≡ (any_true xs || x)
any-push [] x = or-false x
any-push (y ∷ ys) x = ap (λ z. y || z) (any-push ys x) ∙ or-assoc y (any_true ys) x

-- the list up to and with the item at i
pub one-more : {A B : Type 0} (g : A → B) (xs : List A) (i : ℕ) (x : A) → i < length xs → x ≡ get_or xs i x → map g (take (i + 1) xs) ≡ map g (take i xs) ++ g x ∷ []
one-more g xs i x h e = ap (map g) (take_more xs i x h ∙ ap (λ z. take i xs ++ z ∷ []) (sym e)) ∙ map-push g (take i xs) x

-- what is read past the end of a list of parts
abbrev pub no_part : Measure
no_part = record { facts = record { depth = 0; cells = 0; nodes = 0; literal = false }; extent = None }

one-part : {B : Type 0} (g : Measure → B) (xs : List Measure) (i : ℕ) → i < length xs → map g (take (i + 1) xs) ≡ map g (take i xs) ++ g (get_or xs i no_part) ∷ []
one-part g xs i h = ap (map g) (take_more xs i no_part h) ∙ map-push g (take i xs) (get_or xs i no_part)

pub most-more : (g : Measure → ℕ) (xs : List Measure) (i : ℕ) → i < length xs → most (map g (take (i + 1) xs)) ≡ max (g (get_or xs i no_part)) (most (map g (take i xs)))
most-more g xs i h = ap most (one-part g xs i h) ∙ most-push (map g (take i xs)) (g (get_or xs i no_part))

pub all-more : (g : Measure → Bool) (xs : List Measure) (i : ℕ) → i < length xs → all_true (map g (take (i + 1) xs)) ≡ (all_true (map g (take i xs)) && g (get_or xs i no_part))
all-more g xs i h = ap all_true (one-part g xs i h) ∙ all-push (map g (take i xs)) (g (get_or xs i no_part))

pub any-more : (g : Measure → Bool) (xs : List Measure) (i : ℕ) → i < length xs → any_true (map g (take (i + 1) xs)) ≡ (any_true (map g (take i xs)) || g (get_or xs i no_part))
any-more g xs i h = ap any_true (one-part g xs i h) ∙ any-push (map g (take i xs)) (g (get_or xs i no_part))

pub sum-more : (g : Measure → ℕ) (xs : List Measure) (i : ℕ) → i < length xs → sum (map g (take (i + 1) xs)) ≡ sum (map g (take i xs)) + g (get_or xs i no_part)
sum-more g xs i h = ap sum (one-part g xs i h) ∙ sum-push (map g (take i xs)) (g (get_or xs i no_part))

-- extents

end-push : (at : ℕ) (xs : List Extent) (x : Extent) → end_of at (xs ++ x ∷ []) ≡ rounded (end_of at xs) x.align + x.size
end-push at [] x = refl
end-push at (y ∷ ys) x = end-push (rounded at y.align + y.size) ys x

pub end-more : (xs : List Measure) (i : ℕ) → i < length xs → end_of 0 (map laid (take (i + 1) xs)) ≡ rounded (end_of 0 (map laid (take i xs))) (laid (get_or xs i no_part)).align + (laid (get_or xs i no_part)).size
end-more xs i h = ap (end_of 0) (one-part laid xs i h) ∙ end-push 0 (map laid (take i xs)) (laid (get_or xs i no_part))

laid-fits : (m : Measure) (o : Option Extent) → m.extent ≡ o → is_some o ≡ true → IsGood m → Fitting m.facts.cells (unwrap_or o (record { size = 0; align = 1 }))
laid-fits m None e s g = absurd (cc)
laid-fits m (Some x) e s g = g.fits x e

and-left : (a b : Bool) → (a && b) ≡ true → a ≡ true
and-left true b h = refl
and-left false b h = absurd (cc)

and-right : (a b : Bool) → (a && b) ≡ true → b ≡ true
and-right true b h = h
and-right false b h = absurd (cc)

pub good-at : (ms : List Measure) → AreGood ms → IsAllSized ms → (i : ℕ) → i < length ms → Fitting (get_or ms i no_part).facts.cells (laid (get_or ms i no_part))
good-at [] g s i h = absurd (omega arith)
good-at (m ∷ ms) g s zero h = laid-fits m m.extent refl (and-left (is_some m.extent) (all_true (map (λ (w : Measure). is_some w.extent) ms)) s) g.0
good-at (m ∷ ms) g s (suc i) h = good-at ms g.1 (and-right (is_some m.extent) (all_true (map (λ (w : Measure). is_some w.extent) ms)) s) i (omega arith)

pub sum-cons : (x : ℕ) (xs : List ℕ) → sum (x ∷ xs) ≡ x + sum xs
sum-cons x xs = omega (arith, sum_by-append (λ y. y) (x ∷ []) xs)

pub sum-take : (g : Measure → ℕ) (xs : List Measure) (i : ℕ) → sum (map g (take i xs)) ≤ sum (map g xs)
sum-take g [] zero = omega arith
sum-take g [] (suc i) = omega arith
sum-take g (x ∷ xs) zero = omega arith
sum-take g (x ∷ xs) (suc i) = omega (arith, sum-take g xs i, sum-cons (g x) (map g xs), sum-cons (g x) (map g (take i xs)))

pub most-small : (ms : List Measure) → AreGood ms → most (map (λ (m : Measure). m.facts.depth) ms) ≤ 512
most-small [] g = omega arith
most-small (m ∷ ms) g = let a = g.0.small.few_levels in let b = most-small ms g.1 in omega arith

pub most-few : (ms : List Measure) → AreGood ms → most (map (λ (m : Measure). m.facts.cells) ms) ≤ 1073741824
most-few [] g = omega arith
most-few (m ∷ ms) g = let a = g.0.small.few_cells in let b = most-few ms g.1 in omega arith

widest-laid : (ms : List Measure) → most (map (λ (m : Measure). (laid m).size) ms) ≡ most (map (λ (e : Extent). e.size) (map laid ms))
widest-laid [] = refl
widest-laid (m ∷ ms) = ap (max (laid m).size) (widest-laid ms)

strictest-laid : (ms : List Measure) → most (map (λ (m : Measure). (laid m).align) ms) ≡ most (map (λ (e : Extent). e.align) (map laid ms))
strictest-laid [] = refl
strictest-laid (m ∷ ms) = ap (max (laid m).align) (strictest-laid ms)

-- where all parts have an extent, these are the extents; where one has none, there are none
both-if : (e : Extent) (z : Bool) (ms : List Extent) → both (Some e) (if z then Some ms else None) ≡ (if z then Some (e ∷ ms) else None)
both-if e true ms = refl
both-if e false ms = refl

both-none : (o : Option (List Extent)) → both None o ≡ None
both-none None = refl
both-none (Some xs) = refl

laid-head : (o : Option Extent) (rest : Option (List Extent)) (ms : List Extent) (a b : Bool) → (is_some o && a) ≡ b → rest ≡ (if a then Some ms else None) → both o rest ≡ (if b then Some (unwrap_or o (record { size = 0; align = 1 }) ∷ ms) else None)
laid-head None rest ms a b h e = both-none rest ∙ ap (λ z. if z then Some (record { size = 0; align = 1 } ∷ ms) else None) h
laid-head (Some x) rest ms a b h e = ap (both (Some x)) e ∙ both-if x a ms ∙ ap (λ z. if z then Some (x ∷ ms) else None) h

each-laid : (ms : List Measure) → (b : Bool) → all_true (map (λ (m : Measure). is_some m.extent) ms) ≡ b → each (λ (e : Option Extent). e) (map (λ (m : Measure). m.extent) ms) ≡ (if b then Some (map laid ms) else None)
each-laid [] b h = ap (λ z. if z then Some [] else None) h
each-laid (m ∷ ms) b h =
    laid-head m.extent (each (λ (e : Option Extent). e) (map (λ (w : Measure). w.extent) ms)) (map laid ms) (all_true (map (λ (w : Measure). is_some w.extent) ms)) b h (each-laid ms (all_true (map (λ (w : Measure). is_some w.extent) ms)) refl)

-- the extent of a class, by the parts' extents

pub extent-none_bases : (k : ClassKey) (fl : ClassFlags) (bs fs : List Measure) → bs ≢ [] → None ≡ extent_of.of_class k fl (map (λ (m : Measure). m.extent) bs) (map (λ (m : Measure). m.extent) fs)
extent-none_bases k fl [] fs h = absurd (h refl)
extent-none_bases k fl (b ∷ bs) fs h = refl

pub extent-none_virtual : (k : ClassKey) (fl : ClassFlags) (fs : List Measure) → fl.has_virtual ≡ true → None ≡ extent_of.of_class k fl [] (map (λ (m : Measure). m.extent) fs)
extent-none_virtual k fl fs h = sym (ap (λ b. if b then None else option_map (class_extent k) (each (λ (e : Option Extent). e) (map (λ (m : Measure). m.extent) fs))) h)

pub extent-unsized : (k : ClassKey) (fl : ClassFlags) (fs : List Measure) → fl.has_virtual ≡ false → all_true (map (λ (m : Measure). is_some m.extent) fs) ≡ false → None ≡ extent_of.of_class k fl [] (map (λ (m : Measure). m.extent) fs)
extent-unsized k fl fs h s =
    sym (ap (λ b. if b then None else option_map (class_extent k) (each (λ (e : Option Extent). e) (map (λ (m : Measure). m.extent) fs))) h ∙ ap (option_map (class_extent k)) (each-laid fs false s))

pub extent-sized : (k : ClassKey) (fl : ClassFlags) (fs : List Measure) → fl.has_virtual ≡ false → IsAllSized fs → Some (class_extent k (map laid fs)) ≡ extent_of.of_class k fl [] (map (λ (m : Measure). m.extent) fs)
extent-sized k fl fs h s =
    sym (ap (λ b. if b then None else option_map (class_extent k) (each (λ (e : Option Extent). e) (map (λ (m : Measure). m.extent) fs))) h ∙ ap (option_map (class_extent k)) (each-laid fs true s))

pub widest-is : (fs : List Measure) (n : ℕ) → n ≡ most (map (λ (m : Measure). (laid m).size) fs) → n ≡ widest (map laid fs)
widest-is fs n e = e ∙ widest-laid fs

pub strictest-is : (fs : List Measure) (n : ℕ) → n ≡ most (map (λ (m : Measure). (laid m).align) fs) → max n 1 ≡ strictest (map laid fs)
strictest-is fs n e = let z = e ∙ strictest-laid fs in omega arith

pub most-align : (ms : List Measure) → AreGood ms → IsAllSized ms → most (map (λ (m : Measure). (laid m).align) ms) ≤ 8
most-align [] g s = omega arith
most-align (m ∷ ms) g s =
    let f = laid-fits m m.extent refl (and-left (is_some m.extent) (all_true (map (λ (w : Measure). is_some w.extent) ms)) s) g.0 in
    let a = f.most_align in
    let b = most-align ms g.1 (and-right (is_some m.extent) (all_true (map (λ (w : Measure). is_some w.extent) ms)) s) in
    omega arith

-- the largest part is bounded by the largest cells
pub most-size : (ms : List Measure) → AreGood ms → IsAllSized ms → most (map (λ (m : Measure). (laid m).size) ms) ≤ 16 * most (map (λ (m : Measure). m.facts.cells) ms)
most-size [] g s = omega arith
most-size (m ∷ ms) g s =
    let f = laid-fits m m.extent refl (and-left (is_some m.extent) (all_true (map (λ (w : Measure). is_some w.extent) ms)) s) g.0 in
    let a = f.size_fits in
    let b = most-size ms g.1 (and-right (is_some m.extent) (all_true (map (λ (w : Measure). is_some w.extent) ms)) s) in
    omega arith

pub empty-unsized : (k : ClassKey) (fl : ClassFlags) (bs fs : List Measure) → length bs ≡ 0 → fl.has_virtual ≡ false → all_true (map (λ (m : Measure). is_some m.extent) fs) ≡ false → None ≡ extent_of.of_class k fl (map (λ (m : Measure). m.extent) bs) (map (λ (m : Measure). m.extent) fs)
empty-unsized k fl [] fs l h s = extent-unsized k fl fs h s
empty-unsized k fl (b ∷ bs) fs l h s = absurd (omega arith)

pub empty-sized : (k : ClassKey) (fl : ClassFlags) (bs fs : List Measure) → length bs ≡ 0 → fl.has_virtual ≡ false → IsAllSized fs → Some (class_extent k (map laid fs)) ≡ extent_of.of_class k fl (map (λ (m : Measure). m.extent) bs) (map (λ (m : Measure). m.extent) fs)
empty-sized k fl [] fs l h s = extent-sized k fl fs h s
empty-sized k fl (b ∷ bs) fs l h s = absurd (omega arith)

capped-exact : (limit e n : ℕ) → Capped limit e n → n ≤ limit → n ≡ e
capped-exact limit e n h le = grind (arith, h)

some-fits : (o : Option Extent) (c d : ℕ) → IfSome o (λ e. Fitting c e) → d ≡ c → (e : Extent) → o ≡ Some e → Fitting d e
some-fits None c d h same e x = absurd (cc)
some-fits (Some w) c d h same e x = subst (λ n. Fitting n e) (sym same) (subst (Fitting c) (let z : w ≡ e = cc in z) h)

pub depth-is : (bs fs : List ℕ) (n a b : ℕ) → n ≡ max a b → a ≡ most bs → b ≡ most fs → n + 1 ≡ most (bs ++ fs) + 1
depth-is bs fs n a b h x y = omega (arith, most-append bs fs)

pub measured-known : (k : ClassKey) (fl : ClassFlags) (bs fs : List Measure) (m : Measure)
    → m.facts.depth ≡ depth_of.of_class k fl (map (λ (m : Measure). m.facts.depth) bs) (map (λ (m : Measure). m.facts.depth) fs)
    → Capped 1073741824 (cells_of.of_class k fl (map (λ (m : Measure). m.facts.cells) bs) (map (λ (m : Measure). m.facts.cells) fs)) m.facts.cells
    → Capped 1048576 (nodes_of.of_class k fl (map (λ (m : Measure). m.facts.nodes) bs) (map (λ (m : Measure). m.facts.nodes) fs)) m.facts.nodes
    → m.facts.literal ≡ literal_of.of_class k fl (map (λ (m : Measure). m.facts.literal) bs) (map (λ (m : Measure). m.facts.literal) fs)
    → m.extent ≡ extent_of.of_class k fl (map (λ (m : Measure). m.extent) bs) (map (λ (m : Measure). m.extent) fs)
    → IfSome m.extent (λ e. Fitting (cells_of.of_class k fl (map (λ (m : Measure). m.facts.cells) bs) (map (λ (m : Measure). m.facts.cells) fs)) e)
    → m.facts.depth ≤ 512 → m.facts.cells ≤ 1073741824 → m.facts.nodes ≤ 1048576 → WasMeasured k fl bs fs (Some m)
measured-known k fl bs fs m ed hc hn el ee fit d c n =
    let ec = capped-exact 1073741824 _ m.facts.cells hc c in
    let en = capped-exact 1048576 _ m.facts.nodes hn n in (
      record {
        depth_by = ed;
        cells_by = ec;
        nodes_by = en;
        literal_by = el;
        extent_by = ee;
        good = record { small = record { few_levels = d; few_cells = c; few_nodes = n; some_nodes = omega arith }; fits = some-fits m.extent _ m.facts.cells fit ec };
      },
      large-false _ _ _ m.facts.depth m.facts.cells m.facts.nodes (ap Some (sym ed)) (ap Some (sym ec)) (ap Some (sym en)) d c n,
    )
