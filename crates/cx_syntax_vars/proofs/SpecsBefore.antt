-- Specifiers and then a declarator: the sequence is read exactly, although specifiers alone could go on with the name that is declared ([dcl.spec], [dcl.decl]).
use Rattle.std.proofs.Common.{◌≡◌, ℕ, zero, suc, Bool, true, false, if◌then◌else◌, List, [], ◌∷◌, ◌++◌, length, Option, Some, None, refl, sym, ◌∙◌, ap, subst, inl, inr, append_assoc, arith}
use Rattle.std.proofs.lemmas.List.{append-nil}
use Rattle.cx_base.specs.declared.rule.Rule.TheVariants.{Syntax}
use Rattle.cx_grammar.specs.Language.{Language, ◌>>◌, ◌<$>◌, ◌∥◌, many, maybe, such, measured, in_first, in_second, none_yet, some, present}
use Rattle.cx_grammar.specs.Exact.{Family, Outcome, done, stop, Exact}
use Rattle.cx_grammar.specs.Reading.{Reader, made, sees, token_by, many_of, many_from, such_of, measured_by, taken, ◌>>=◌, ◌>>◌ as ◌|>◌, ◌<$>◌ as ◌<$$>◌}
use Rattle.cx_grammar.specs.Sets.{by}
use Rattle.cx_grammar.proofs.Heads.{Apart, Sub, Heads, Opens, opens, opens_many, heads_both}
use Rattle.cx_grammar.proofs.Parts.{Same, exact_present}
use Rattle.cx_grammar.proofs.Sames.{same_refl, same_trans, same_as, same_both, exactly_same}
use Rattle.cx_grammar.proofs.Steps.{Exactly, exactly_as, exactly_both, exactly_open}
use Rattle.cx_grammar.proofs.Choices.{Right, second_of_two}
use Rattle.cx_grammar.proofs.Sides.{exactly_measured, exactly_such}
use Rattle.cx_tree.specs.declared.specifiers.Modifier.{Modifier}
use Rattle.cx_tree.specs.declared.specifiers.Specs.{Specs}
use Rattle.cx_tree.specs.declared.specifiers.SpecsType.{SpecsType}
use Rattle.cx_syntax.specs.declared.class.Class.{Class}
use Rattle.cx_syntax.specs.declared.lexeme.Lexeme.{Lexeme}
use Rattle.cx_syntax.specs.Classes.{same_class}
use Rattle.cx_syntax.specs.Sets.{is_modifier, starts_typed}
use Rattle.cx_syntax.specs.Values.{span_of, modifier_of, is_specified, specs_of}
use Rattle.cx_syntax.specs.Grammar as g
use Rattle.cx_syntax.specs.Readers as r
use Rattle.cx_syntax.proofs.Basics.{at, apart, heads_pick, begun_pick}
use Rattle.cx_syntax.proofs.Specifiers.{goes_typed, exactly_modifiers, exactly_typed, heads_typed, no_modifier}
use Rattle.cx_syntax.proofs.Beside.{Covers, covers_present, first_begun, second_begun}
use Rattle.cx_syntax_vars.specs.Readers.{type_behind, specs_before}
use Rattle.cx_syntax_vars.proofs.Covering.{covers_led, covers_three, covers_first_as, covers_first_measured, covers_first_such, either_before, either_made, same_measured}

-- ---- specifiers are modifiers alone, or modifiers and a type

abbrev pub mods : Language Lexeme (List Modifier)
mods = many g.modifier

abbrev pub type : Language Lexeme SpecsType
type = g.words_type ∥ g.name_type

abbrev pub holds : List Modifier → Bool
holds [] = false
holds (m ∷ ms) = true

abbrev pub no_type : List Modifier → List Modifier × Option SpecsType
no_type ms = (ms, None)

abbrev pub with_type : List Modifier × SpecsType → List Modifier × Option SpecsType
with_type u = (u.0, Some u.1)

abbrev pub mods_alone : Language Lexeme Specs
mods_alone = specs_of <$> measured span_of (no_type <$> such holds mods)

abbrev pub mods_typed : Language Lexeme Specs
mods_typed = specs_of <$> measured span_of (with_type <$> (mods >> type))

abbrev apart_parts : Family Lexeme (List Modifier × Option SpecsType)
apart_parts n = (no_type <$> such holds mods) ∥ (with_type <$> (mods >> type))

abbrev joint_parts : Family Lexeme (List Modifier × Option SpecsType)
joint_parts n = such is_specified (mods >> maybe type)

specified_alone : (ms : List Modifier) → holds ms ≡ true → is_specified (ms, None) ≡ true
specified_alone [] e = cc
specified_alone (m ∷ ms) e = refl

alone_specified : (ms : List Modifier) → is_specified (ms, None) ≡ true → holds ms ≡ true
alone_specified [] e = cc
alone_specified (m ∷ ms) e = refl

specified_typed : (ms : List Modifier) (t : SpecsType) → is_specified (ms, Some t) ≡ true
specified_typed [] t = refl
specified_typed (m ∷ ms) t = refl

parts_spells : (n : ℕ) (x : List Lexeme) (w : List Modifier × Option SpecsType) → (apart_parts n).spells x w → (joint_parts n).spells x w
parts_spells n x w (inl s) = let P : List Modifier × Option SpecsType → Type 0 = λ z. (joint_parts n).spells x z in
    subst P (sym s.made) (record { part = record { front = x; back = []; cut = whole x; first = s.part.part; second = inl (record { value = tt; made = refl; part = refl }) }; such_a = specified_alone s.value s.part.such_a })
  where
    whole : (x : List Lexeme) → x ≡ x ++ []
    whole x = sym (append-nil x)
parts_spells n x w (inr s) = let P : List Modifier × Option SpecsType → Type 0 = λ z. (joint_parts n).spells x z in let i = s.part in
    subst P (sym s.made) (record { part = record { front = i.front; back = i.back; cut = i.cut; first = i.first; second = inr (record { value = s.value.1; made = refl; part = i.second }) }; such_a = specified_typed s.value.0 s.value.1 })

parts_spelled : (n : ℕ) (x f k : List Lexeme) (ms : List Modifier) (o : Option SpecsType) → x ≡ f ++ k → mods.spells f ms → (maybe type).spells k o → is_specified (ms, o) ≡ true → (apart_parts n).spells x (ms, o)
parts_spelled n x f k ms None cut s (inl a) e = let P : List Lexeme → Type 0 = λ l. mods.spells l ms in
    inl (record { value = ms; made = refl; part = record { part = subst P (sym (cut ∙ (ap (λ l. f ++ l) a.part ∙ append-nil f))) s; such_a = alone_specified ms e } })
parts_spelled n x f k ms None cut s (inr a) e = absurd (no_some a.made)
  where
    no_some : {v : SpecsType} → None ≡ Some v → ⊥
    no_some e = cc
parts_spelled n x f k ms (Some t) cut s (inl a) e = absurd (no_none a.made)
  where
    no_none : {v : SpecsType} → Some v ≡ None → ⊥
    no_none e = cc
parts_spelled n x f k ms (Some t) cut s (inr a) e = let same_type : t ≡ a.value = some_same a.made in let P : SpecsType → Type 0 = λ z. type.spells k z in
    inr (record { value = (ms, t); made = refl; part = record { front = f; back = k; cut = cut; first = s; second = subst P (sym same_type) a.part } })
  where
    some_same : {v w : SpecsType} → Some v ≡ Some w → v ≡ w
    some_same e = cc

blank_mods : (x : List Lexeme) → x ≡ [] → mods.begins x
blank_mods x e = record { front = []; back = x; cut = refl; turns = []; whole = refl; next = none_yet e }

blank_type : (x : List Lexeme) → x ≡ [] → type.begins x
blank_type x e = inl (none_yet e)

parts_begins : (n : ℕ) (x : List Lexeme) → (apart_parts n).begins x → (joint_parts n).begins x
parts_begins n x (inl (none_yet e)) = in_first (blank_mods x e)
parts_begins n x (inl (some st b)) = in_first b
parts_begins n x (inr (none_yet e)) = in_first (blank_mods x e)
parts_begins n x (inr (some st (in_first b))) = in_first b
parts_begins n x (inr (some st (in_second f k v cut s b))) = in_second f k v cut s (inr (some refl b))

parts_begun : (n : ℕ) (x : List Lexeme) → (joint_parts n).begins x → (apart_parts n).begins x
parts_begun n x (in_first b) = inl (some refl b)
parts_begun n x (in_second f k v cut s (inl e)) = inr (some refl (in_second f k v cut s (blank_type k e)))
parts_begun n x (in_second f k v cut s (inr (none_yet e))) = inr (some refl (in_second f k v cut s (blank_type k e)))
parts_begun n x (in_second f k v cut s (inr (some st b))) = inr (some refl (in_second f k v cut s b))

parts_same : Same apart_parts joint_parts
parts_same = record { spells = parts_spells; spelled = λ n x w s. parts_spelled n x s.part.front s.part.back w.0 w.1 s.part.cut s.part.first s.part.second s.such_a; begins = parts_begins; begun = parts_begun }

pub specs_apart : Same (λ n. mods_alone ∥ mods_typed) (λ n. g.specs)
specs_apart = same_trans (either_made specs_of span_of (λ n. no_type <$> such holds mods) (λ n. with_type <$> (mods >> type))) (same_as specs_of (same_measured span_of parts_same))

-- ---- the readers of the two

abbrev pub read_alone : Reader Lexeme Specs
read_alone = specs_of <$$> measured_by span_of (no_type <$$> such_of holds r.modifiers)

abbrev pub read_typed : Reader Lexeme Specs
read_typed = specs_of <$$> measured_by span_of (with_type <$$> (r.modifiers |> r.typed))

pub exactly_alone : (left : ℕ) → Exactly (λ n. mods_alone) (by (at is_modifier)) left read_alone
exactly_alone left = exactly_as specs_of (exactly_measured span_of (exactly_as no_type (exactly_such holds (exactly_modifiers left))))

pub exactly_mods_typed : (left : ℕ) → Exactly (λ n. mods_typed) (by (at goes_typed)) left read_typed
unfolding same_class
exactly_mods_typed left = exactly_as specs_of (exactly_measured span_of (exactly_as with_type (exactly_both (exactly_modifiers left) (exactly_typed left) heads_typed (apart is_modifier starts_typed refl))))

-- ---- modifiers are always read to their end

pub record Run (ts : List Lexeme) (n : ℕ) : Type 0 where
  pub taken : List Modifier
  pub rest : List Lexeme
  pub is : many_from (sees (at is_modifier)) r.modifier n ts ≡ done taken rest

run_step : (n : ℕ) (t : Lexeme) (ts : List Lexeme) → Run ts n → (b : Bool) → is_modifier t.class ≡ b → Run (t ∷ ts) (suc n)
run_step n t ts s true e = record {
  taken = modifier_of t ∷ s.taken;
  rest = s.rest;
  is = ap (λ b. if b then token_by (if b then Some (modifier_of t) else None) t ts >>= (λ v rest. made (λ vs. v ∷ vs) (many_from (sees (at is_modifier)) r.modifier n rest)) else done [] (t ∷ ts)) e ∙ ap (made (λ vs. modifier_of t ∷ vs)) s.is;
}
run_step n t ts s false e = record {
  taken = [];
  rest = t ∷ ts;
  is = ap (λ b. if b then token_by (if b then Some (modifier_of t) else None) t ts >>= (λ v rest. made (λ vs. v ∷ vs) (many_from (sees (at is_modifier)) r.modifier n rest)) else done [] (t ∷ ts)) e;
}

run : (n : ℕ) (ts : List Lexeme) → Run ts n
run zero ts = record { taken = []; rest = ts; is = refl }
run (suc n) [] = record { taken = []; rest = []; is = refl }
run (suc n) (t ∷ ts) = run_step n t ts (run n ts) (is_modifier t.class) refl

pub record ModsRead (ts : List Lexeme) : Type 0 where
  pub taken : List Modifier
  pub rest : List Lexeme
  pub is : r.modifiers ts ≡ done taken rest

pub mods_read : (ts : List Lexeme) → ModsRead ts
unfolding many_of
mods_read ts = let s = run (length ts) ts in record { taken = s.taken; rest = s.rest; is = s.is }

-- ---- modifiers alone

no_mods : (ms : List Modifier) → mods.spells [] ms → holds ms ≡ true → ⊥
no_mods [] s e = cc
no_mods (m ∷ ms) s e = no_modifier m s.0 s.1 s.2 s.3

alone_full : (n : ℕ) (w : Specs) → mods_alone.spells [] w → ⊥
alone_full n w s = let i = s.part.part.part in no_mods s.part.part.value i.part i.such_a

pub heads_alone : Heads (λ n. mods_alone) (at is_modifier)
heads_alone = let o = opens_many {G = λ (n : ℕ). g.modifier} (heads_pick is_modifier modifier_of) in record {
  blank = λ n. blank_mods [] refl;
  full = alone_full;
  spells = λ n t x w s. o.spells n t x s.part.part.value s.part.part.part.part;
  begins = o.begins;
}

alone_spelled : (x : List Lexeme) (ms : List Modifier) → mods.spells x ms → holds ms ≡ true → mods_alone.spells x (specs_of (no_type ms, span_of x))
alone_spelled x ms s e = record { value = (no_type ms, span_of x); made = refl; part = record { part = record { value = ms; made = refl; part = record { part = s; such_a = e } }; measure = refl } }

-- ---- which of the two a reader reads by

abbrev specs_made : List Lexeme → Outcome Lexeme (List Modifier × Option SpecsType) → Outcome Lexeme Specs
specs_made ts o = made specs_of (o >>= (λ v rest. done (v, span_of (taken ts rest)) rest))

made_twice : {A B C : Type 0} (f : A → B) (h : B → C) (o : Outcome Lexeme A) → made h (made f o) ≡ made (λ a. h (f a)) o
made_twice f h (done v rest) = refl
made_twice f h (stop rule left) = refl

module _ (follows : List Lexeme → Bool) (ts : List Lexeme) where
  abbrev parts_by : Outcome Lexeme (List Modifier) → Outcome Lexeme (List Modifier × Option SpecsType)
  parts_by o = o >>= (λ ms rest. made (λ t. (ms, t)) (type_behind follows ms rest))

  abbrev typed_by : Outcome Lexeme (List Modifier) → Outcome Lexeme (List Modifier × Option SpecsType)
  typed_by o = made with_type (o >>= (λ ms rest. made (λ t. (ms, t)) (r.typed rest)))

  abbrev alone_by : Outcome Lexeme (List Modifier) → Outcome Lexeme (List Modifier × Option SpecsType)
  alone_by o = made no_type (o >>= (λ ms rest. if holds ms then done ms rest else stop Syntax (length rest)))

  some_typed : (ms : List Modifier) (rest : List Lexeme) → made (λ t. (ms, t)) (made Some (r.typed rest)) ≡ typed_by (done ms rest)
  some_typed ms rest = made_twice Some (λ t. (ms, t)) (r.typed rest) ∙ sym (made_twice (λ t. (ms, t)) with_type (r.typed rest))

  typed_parts : (ms : List Modifier) (rest : List Lexeme) → (holds ms ≡ true → follows rest ≡ true) → parts_by (done ms rest) ≡ typed_by (done ms rest)
  typed_parts [] rest e = some_typed [] rest
  typed_parts (m ∷ ms) rest e = ap (λ b. made (λ t. (m ∷ ms, t)) (if b then made Some (r.typed rest) else done None rest)) (e refl) ∙ some_typed (m ∷ ms) rest

  alone_parts : (m : Modifier) (ms : List Modifier) (rest : List Lexeme) → follows rest ≡ false → parts_by (done (m ∷ ms) rest) ≡ alone_by (done (m ∷ ms) rest)
  alone_parts m ms rest e = ap (λ b. made (λ t. (m ∷ ms, t)) (if b then made Some (r.typed rest) else done None rest)) e

  pub reads_typed : (ms : List Modifier) (rest : List Lexeme) → r.modifiers ts ≡ done ms rest → (holds ms ≡ true → follows rest ≡ true) → specs_before follows ts ≡ read_typed ts
  unfolding specs_before
  reads_typed ms rest is e = ap (λ o. specs_made ts (parts_by o)) is ∙ (ap (specs_made ts) (typed_parts ms rest e) ∙ sym (ap (λ o. specs_made ts (typed_by o)) is))

  pub reads_alone : (m : Modifier) (ms : List Modifier) (rest : List Lexeme) → r.modifiers ts ≡ done (m ∷ ms) rest → follows rest ≡ false → specs_before follows ts ≡ read_alone ts
  unfolding specs_before
  reads_alone m ms rest is e = ap (λ o. specs_made ts (parts_by o)) is ∙ (ap (specs_made ts) (alone_parts m ms rest e) ∙ sym (ap (λ o. specs_made ts (alone_by o)) is))

-- ---- what the tokens behind modifiers decide

-- A name that is declared comes next: a type and then the declarator go no further than a front that the declarator begins.
pub record DeclaratorNext {A : Type 0} (H : Family Lexeme A) (go : Class → Bool) (left : ℕ) (ts : List Lexeme) : Type 0 where
  pub front : List Lexeme
  pub rest : List Lexeme
  pub cut : ts ≡ front ++ rest
  pub covers : Covers (λ n. type >> H n) (by (at go)) ts front
  pub begins : (H left).begins front

-- A type comes next: the declarator goes no further than a front that the type begins.
pub record TypeNext {A : Type 0} (H : Family Lexeme A) (go : Class → Bool) (ts : List Lexeme) : Type 0 where
  pub front : List Lexeme
  pub rest : List Lexeme
  pub cut : ts ≡ front ++ rest
  pub covers : Covers H (by (at go)) ts front
  pub begins : type.begins front

pub record Decides {A : Type 0} (H : Family Lexeme A) (go : Class → Bool) (left : ℕ) (follows : List Lexeme → Bool) : Type 0 where
  pub declarator : (ts : List Lexeme) → follows ts ≡ false → DeclaratorNext H go left ts
  pub typed : (ts : List Lexeme) → follows ts ≡ true → TypeNext H go ts

module _ {A : Type 0} (H : Family Lexeme A) (p go : Class → Bool) (left : ℕ) (read : Reader Lexeme A) (follows : List Lexeme → Bool)
    (o : Opens H (at p)) (blank : (n : ℕ) → (H n).begins []) (stays : (n : ℕ) → (H n).stays ≡ true) (a : Apart (at is_modifier) (at p))
    (over : (n : ℕ) (w : A) (t : Lexeme) → (H n).spells [] w → at is_modifier t ≡ true → at go t ≡ true)
    (alone : Exactly (λ n. mods_alone >> H n) (by (at go)) left (read_alone |> read)) (typed_h : Exactly (λ n. mods_typed >> H n) (by (at go)) left (read_typed |> read)) (d : Decides H go left follows)
  where
    abbrev both : Family Lexeme (Specs × A)
    both n = (mods_alone >> H n) ∥ (mods_typed >> H n)

    abbrev then_read : Outcome Lexeme Specs → Outcome Lexeme (Specs × A)
    then_read s = s >>= (λ v rest. made (λ b. (v, b)) (read rest))

    alone_right : (ts : List Lexeme) → Right (λ n. present (mods_alone >> H n)) (by (at go)) left ts (then_read (read_alone ts))
    alone_right ts = record { exact = exact_present (λ n. mods_alone >> H n) (by (at go)) left ts (then_read (read_alone ts)) (λ n l. stays n) (alone.at ts) }

    typed_right : (ts : List Lexeme) → Right (λ n. present (mods_typed >> H n)) (by (at go)) left ts (then_read (read_typed ts))
    typed_right ts = record { exact = exact_present (λ n. mods_typed >> H n) (by (at go)) left ts (then_read (read_typed ts)) (λ n l. stays n) (typed_h.at ts) }

    mods_exact : (ts : List Lexeme) (ms : List Modifier) (rest : List Lexeme) → r.modifiers ts ≡ done ms rest → Exact (λ n. mods) (by (at is_modifier)) left ts (done ms rest)
    mods_exact ts ms rest is = let P : Outcome Lexeme (List Modifier) → Type 0 = λ z. Exact (λ n. mods) (by (at is_modifier)) left ts z in subst P is ((exactly_modifiers left).at ts)

    cut_both : (ts f k u l : List Lexeme) → ts ≡ f ++ k → k ≡ u ++ l → ts ≡ (f ++ u) ++ l
    cut_both ts f k u l e h = e ∙ (ap (λ z. f ++ z) h ∙ sym (append_assoc f u l))

    -- no modifier comes first
    unmodified : (ts rest : List Lexeme) → Exact (λ n. mods) (by (at is_modifier)) left ts (done [] rest) → sees (at is_modifier) ts ≡ false
    unmodified [] rest e = refl
    unmodified (t ∷ ts) rest e = by_class (is_modifier t.class) refl
      where
        by_class : (b : Bool) → is_modifier t.class ≡ b → is_modifier t.class ≡ false
        by_class false i = i
        by_class true i = let b : mods.begins (t ∷ []) = record { front = []; back = t ∷ []; cut = refl; turns = []; whole = refl; next = some refl (begun_pick is_modifier modifier_of t i) } in
            let w = e.core.ends left tt (t ∷ []) ts refl b in let none : e.used ≡ [] = e.spells left (omega arith) in let c : [] ≡ t ∷ w.0 = sym none ∙ w.1 in cc

    typed_first : (ts rest : List Lexeme) → r.modifiers ts ≡ done [] rest → Right both (by (at go)) left ts (then_read (read_typed ts))
    typed_first ts rest is = second_of_two (heads_both H heads_alone) (unmodified ts rest (mods_exact ts [] rest is)) (typed_right ts)

    typed_next : (ts rest : List Lexeme) (m : Modifier) (ms : List Modifier) → r.modifiers ts ≡ done (m ∷ ms) rest → TypeNext H go rest → Right both (by (at go)) left ts (then_read (read_typed ts))
    typed_next ts rest m ms is n = let e = mods_exact ts (m ∷ ms) rest is in
        second_begun (typed_right ts) (e.used ++ n.front) n.rest (cut_both ts e.used rest n.front n.rest e.core.cut n.cut)
        (covers_present (covers_first_as specs_of (covers_first_measured span_of (covers_first_as no_type (covers_first_such holds (covers_led e o a over n.covers))))))
        (some (stays left) (in_first (in_second e.used n.front (m ∷ ms) refl (e.spells left (omega arith)) n.begins)))

    declarator_next : (ts rest : List Lexeme) (m : Modifier) (ms : List Modifier) → r.modifiers ts ≡ done (m ∷ ms) rest → DeclaratorNext H go left rest → Right both (by (at go)) left ts (then_read (read_alone ts))
    unfolding same_class
    declarator_next ts rest m ms is n = let e = mods_exact ts (m ∷ ms) rest is in
        first_begun (alone_right ts) (e.used ++ n.front) n.rest (cut_both ts e.used rest n.front n.rest e.core.cut n.cut)
        (covers_present (covers_first_as specs_of (covers_first_measured span_of (covers_first_as with_type (covers_three blank
        (covers_led e (opens (heads_both H heads_typed)) (apart is_modifier starts_typed refl) (λ k w t s i. absurd ((heads_both H heads_typed).full k w s)) n.covers))))))
        (some (stays left) (in_second e.used n.front (specs_of (no_type (m ∷ ms), span_of e.used)) refl (alone_spelled e.used (m ∷ ms) (e.spells left (omega arith)) refl) n.begins))

    by_test : (ts rest : List Lexeme) (m : Modifier) (ms : List Modifier) → r.modifiers ts ≡ done (m ∷ ms) rest → (b : Bool) → follows rest ≡ b → Right both (by (at go)) left ts (then_read (specs_before follows ts))
    by_test ts rest m ms is true e = let P : Outcome Lexeme Specs → Type 0 = λ z. Right both (by (at go)) left ts (then_read z) in
        subst P (sym (reads_typed follows ts (m ∷ ms) rest is (λ i. e))) (typed_next ts rest m ms is (d.typed rest e))
    by_test ts rest m ms is false e = let P : Outcome Lexeme Specs → Type 0 = λ z. Right both (by (at go)) left ts (then_read z) in
        subst P (sym (reads_alone follows ts m ms rest is e)) (declarator_next ts rest m ms is (d.declarator rest e))

    by_mods : (ts rest : List Lexeme) (ms : List Modifier) → r.modifiers ts ≡ done ms rest → Right both (by (at go)) left ts (then_read (specs_before follows ts))
    by_mods ts rest [] is = let P : Outcome Lexeme Specs → Type 0 = λ z. Right both (by (at go)) left ts (then_read z) in
        subst P (sym (reads_typed follows ts [] rest is (λ i. cc))) (typed_first ts rest is)
    by_mods ts rest (m ∷ ms) is = by_test ts rest m ms is (follows rest) refl

    pub specs_then : Exactly (λ n. g.specs >> H n) (by (at go)) left (specs_before follows |> read)
    specs_then = exactly_same (same_trans (either_before (λ n. mods_alone) (λ n. mods_typed) H (λ n. refl) (λ n. refl) stays) (same_both specs_apart (same_refl H)))
        (record { at = λ ts. let s = mods_read ts in (by_mods ts s.rest s.taken s.is).exact })

-- ---- a declarator that is never empty, and one that may be

pub exactly_specs_then : {A : Type 0} {H : Family Lexeme A} (p go : Class → Bool) {left : ℕ} {read : Reader Lexeme A} {follows : List Lexeme → Bool} → Heads H (at p) → ((n : ℕ) → (H n).stays ≡ true) → Apart (at is_modifier) (at p) → Apart (at goes_typed) (at p)
    → Exactly H (by (at go)) left read → Decides H go left follows → Exactly (λ n. g.specs >> H n) (by (at go)) left (specs_before follows |> read)
exactly_specs_then {H = H} p go {left = left} {read = read} {follows = follows} h stays a b x d = specs_then H p go left read follows (opens h) h.blank stays a (λ n w t s i. absurd (h.full n w s)) (exactly_both (exactly_alone left) x h a) (exactly_both (exactly_mods_typed left) x h b) d

pub exactly_specs_open : {A : Type 0} {H : Family Lexeme A} (p q go : Class → Bool) {left : ℕ} {read : Reader Lexeme A} {follows : List Lexeme → Bool} → Opens H (at p) → ((n : ℕ) → (H n).begins []) → ((n : ℕ) → (H n).stays ≡ true) → Apart (at is_modifier) (at p) → Apart (at goes_typed) (at p)
    → Sub (at is_modifier) (at go) → Sub (at goes_typed) (at go) → Sub (at q) (at go) → Exactly H (by (at q)) left read → Decides H go left follows → Exactly (λ n. g.specs >> H n) (by (at go)) left (specs_before follows |> read)
exactly_specs_open {H = H} p q go {left = left} {read = read} {follows = follows} o blank stays a b k k2 k3 x d = specs_then H p go left read follows o blank stays a (λ n w t s i. k t i) (exactly_open (at go) (exactly_alone left) x o a k k3) (exactly_open (at go) (exactly_mods_typed left) x o b k2 k3) d
