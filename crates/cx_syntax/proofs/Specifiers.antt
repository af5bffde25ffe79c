-- The readers of specifiers and pointers are exact ([dcl.spec], [dcl.ptr]).
use Rattle.std.proofs.Common.{◌≡◌, ℕ, Bool, true, ◌||◌, List, [], ◌∷◌, ◌++◌, Option, Some, None, refl, sym, subst, inl, inr}
use Rattle.cx_grammar.specs.Language.{one, the, maybe, many, none_yet, in_first, such, SpellsMany, ◌>>◌, ◌∥◌}
use Rattle.cx_grammar.specs.Exact.{Family}
use Rattle.cx_grammar.specs.Sets.{by}
use Rattle.cx_grammar.proofs.Lists.{no_front}
use Rattle.cx_grammar.proofs.Heads.{Heads, Opens, heads_as, heads_both, heads_before, heads_or, heads_the, heads_sub, heads_measured, opens_as, opens_maybe, opens_many, opens_both, opens_sub, never_apart, never_sub, same_sub}
use Rattle.cx_grammar.proofs.Steps.{Exactly, exactly_token, exactly_as, exactly_before, exactly_both, exactly_open, exactly_maybe, exactly_many, exactly_upto}
use Rattle.cx_grammar.proofs.Levels.{present_at}
use Rattle.cx_grammar.proofs.Sides.{exactly_measured, exactly_such}
use Rattle.cx_syntax.specs.declared.class.Class.{Class}
use Rattle.cx_syntax.specs.declared.class.Class.TheVariants as k
use Rattle.cx_syntax.specs.declared.lexeme.Lexeme.{Lexeme}
use Rattle.cx_tree.specs.declared.specifiers.Modifier.{Modifier}
use Rattle.cx_tree.specs.declared.specifiers.SpecsType.{SpecsType}
use Rattle.cx_syntax.specs.Classes.{is, same_class}
use Rattle.cx_syntax.specs.Sets.{is_word, is_modifier, is_modifier_or_word, is_elaboration, starts_name, starts_named, starts_typed, starts_specs}
pub use Rattle.cx_syntax.specs.Goes.{goes_stars, goes_ptrs}
use Rattle.cx_syntax.specs.Values.{pick, span_of, either_of, modifier_of, word_of, elaboration_of, named_of, words_of, named_type, is_specified, specs_of, star_of, ptrs_of}
use Rattle.cx_syntax.specs.Grammar as g
use Rattle.cx_syntax.specs.Readers as r
use Rattle.cx_syntax.specs.Readers.{just}
use Rattle.cx_syntax.proofs.Basics.{at, apart, sub, heads_pick, heads_after, exactly_widened, exactly_stays, exactly_choice, opens_upto}
use Rattle.cx_syntax.proofs.Names.{goes_name, exactly_qtype, heads_qtype}

-- ---- what goes on

abbrev pub goes_name_type : Class → Bool
goes_name_type c = is_modifier c || goes_name c

abbrev pub goes_typed : Class → Bool
goes_typed c = is_modifier_or_word c || goes_name c

-- ---- the type among specifiers

pub exactly_elaborations : (left : ℕ) → Exactly (λ n. maybe (one (pick is_elaboration elaboration_of))) (by (at is_elaboration)) left r.elaboration
exactly_elaborations left = exactly_maybe (at is_elaboration) (heads_pick is_elaboration elaboration_of) (present_at refl (λ n. refl) exactly_token) (never_sub (at is_elaboration)) (same_sub (at is_elaboration))

pub exactly_named : (left : ℕ) → Exactly (λ n. g.named) (by (at goes_name)) left r.named
unfolding r.named
exactly_named left = exactly_as named_of (exactly_both (exactly_elaborations left) (exactly_qtype left) heads_qtype (apart is_elaboration starts_name refl))

pub heads_named : Heads (λ n. g.named) (at starts_named)
heads_named = heads_as named_of (heads_after (opens_sub (sub is_elaboration starts_named refl) (opens_maybe (heads_pick is_elaboration elaboration_of))) (λ n. inl refl) (heads_sub (sub starts_name starts_named refl) heads_qtype))

pub exactly_modifiers : (left : ℕ) → Exactly (λ n. many g.modifier) (by (at is_modifier)) left r.modifiers
exactly_modifiers left = exactly_many (at is_modifier) (heads_pick is_modifier modifier_of) (present_at refl (λ n. refl) exactly_token) (never_sub (at is_modifier)) (same_sub (at is_modifier)) (never_apart (at is_modifier))

pub exactly_words : (left : ℕ) → Exactly (λ n. many (one (pick is_modifier_or_word either_of))) (by (at is_modifier_or_word)) left r.words_behind
exactly_words left = exactly_many (at is_modifier_or_word) (heads_pick is_modifier_or_word either_of) (present_at refl (λ n. refl) exactly_token) (never_sub (at is_modifier_or_word)) (same_sub (at is_modifier_or_word)) (never_apart (at is_modifier_or_word))

pub exactly_words_type : (left : ℕ) → Exactly (λ n. g.words_type) (by (at is_modifier_or_word)) left r.words_type
unfolding r.words_type
exactly_words_type left = exactly_as words_of (exactly_open (at is_modifier_or_word) exactly_token (exactly_words left) (opens_many (heads_pick is_modifier_or_word either_of)) (never_apart (at is_modifier_or_word)) (never_sub (at is_modifier_or_word)) (same_sub (at is_modifier_or_word)))

pub heads_words_type : Heads (λ n. g.words_type) (at is_word)
heads_words_type = heads_as words_of (heads_both (λ n. many (one (pick is_modifier_or_word either_of))) (heads_pick is_word word_of))

pub exactly_name_type : (left : ℕ) → Exactly (λ n. g.name_type) (by (at goes_name_type)) left r.name_type
unfolding r.name_type same_class
exactly_name_type left = exactly_as named_type (exactly_open (at goes_name_type) (exactly_named left) (exactly_modifiers left) (opens_many (heads_pick is_modifier modifier_of)) (apart goes_name is_modifier refl) (sub goes_name goes_name_type refl) (sub is_modifier goes_name_type refl))

pub heads_name_type : Heads (λ n. g.name_type) (at starts_named)
heads_name_type = heads_as named_type (heads_both (λ n. many g.modifier) heads_named)

abbrev pub typed : Family Lexeme SpecsType
typed n = g.words_type ∥ g.name_type

pub heads_typed : Heads typed (at starts_typed)
heads_typed = heads_sub (sub (λ c. is_word c || starts_named c) starts_typed refl) (heads_or heads_words_type heads_name_type)

pub exactly_typed : (left : ℕ) → Exactly typed (by (at goes_typed)) left r.typed
unfolding same_class
exactly_typed left = exactly_choice is_word starts_named refl heads_words_type heads_name_type
    (present_at refl (λ n. refl) (exactly_widened (sub is_modifier_or_word goes_typed refl) (exactly_words_type left)))
    (exactly_stays refl (λ n. refl) (exactly_widened (sub goes_name_type goes_typed refl) (exactly_name_type left)))

-- ---- specifiers

abbrev pub unspecified : Family Lexeme (List Modifier × Option SpecsType)
unspecified n = many g.modifier >> maybe (g.words_type ∥ g.name_type)

pub exactly_unspecified : (left : ℕ) → Exactly unspecified (by (at starts_specs)) left r.specs_parts
unfolding same_class
exactly_unspecified left = exactly_open (at starts_specs) (exactly_modifiers left)
    (exactly_maybe (at starts_specs) heads_typed (present_at refl (λ n. refl) (exactly_typed left)) (sub goes_typed starts_specs refl) (sub starts_typed starts_specs refl))
    (opens_maybe heads_typed) (apart is_modifier starts_typed refl) (sub is_modifier starts_specs refl) (same_sub (at starts_specs))

pub exactly_specs : (left : ℕ) → Exactly (λ n. g.specs) (by (at starts_specs)) left r.specs
unfolding r.specs
exactly_specs left = exactly_as specs_of (exactly_measured span_of (exactly_such is_specified (exactly_unspecified left)))

pub opens_unspecified : Opens unspecified (at starts_specs)
opens_unspecified = opens_both (opens_sub (sub is_modifier starts_specs refl) (opens_many (heads_pick is_modifier modifier_of))) (opens_sub (sub starts_typed starts_specs refl) (opens_maybe heads_typed))

pub no_modifier : (v : Modifier) (front back : List Lexeme) → [] ≡ front ++ back → g.modifier.spells front v → ⊥
no_modifier v front back e s = (heads_pick is_modifier modifier_of).full 0 v (let P : List Lexeme → Type 0 = λ l. g.modifier.spells l v in subst P (no_front front back (sym e)) s)

pub nothing_specified : (ms : List Modifier) (o : Option SpecsType) → SpellsMany g.modifier [] ms → (maybe (g.words_type ∥ g.name_type)).spells [] o → is_specified (ms, o) ≡ true → ⊥
nothing_specified (m ∷ ms) o s t e = no_modifier m s.0 s.1 s.2 s.3
nothing_specified [] None s t e = cc
nothing_specified [] (Some v) s (inl a) e = let no_type = a.made in cc
nothing_specified [] (Some v) s (inr a) e = heads_typed.full 0 a.value a.part

pub back_blank : (x y : List Lexeme) → [] ≡ x ++ y → y ≡ []
back_blank [] y e = sym e
back_blank (t ∷ x) y e = cc

pub specs_full : (n : ℕ) (w : List Modifier × Option SpecsType) → (such is_specified (unspecified n)).spells [] w → ⊥
specs_full n w s = let p = s.part in
    let P : List Lexeme → Type 0 = λ l. SpellsMany g.modifier l w.0 in
    let Q : List Lexeme → Type 0 = λ l. (maybe (g.words_type ∥ g.name_type)).spells l w.1 in
    nothing_specified w.0 w.1 (subst P (no_front p.front p.back (sym p.cut)) p.first) (subst Q (back_blank p.front p.back p.cut) p.second) s.such_a

pub heads_specified : Heads (λ n. such is_specified (unspecified n)) (at starts_specs)
heads_specified = record {
  blank = λ n. in_first (record { front = []; back = []; cut = refl; turns = []; whole = refl; next = none_yet refl });
  full = specs_full;
  spells = λ n t x w s. opens_unspecified.spells n t x w s.part;
  begins = opens_unspecified.begins;
}

pub heads_specs : Heads (λ n. g.specs) (at starts_specs)
heads_specs = heads_as specs_of (heads_measured span_of heads_specified)

-- ---- pointers

pub heads_star : Heads (λ n. g.star) (at (just k.Star))
heads_star = heads_as star_of (heads_measured span_of (heads_before {G = λ n. maybe (the (is k.Const))} (is k.Star)))

pub exactly_star : (left : ℕ) → Exactly (λ n. g.star) (by (at (just k.Const))) left r.star
unfolding r.star
exactly_star left = exactly_as star_of (exactly_measured span_of (exactly_before (is k.Star)
    (exactly_maybe (at (just k.Const)) (heads_the (is k.Const)) (present_at refl (λ n. refl) exactly_token) (never_sub (is k.Const)) (same_sub (is k.Const)))))

pub exactly_stars : (left : ℕ) → Exactly (λ n. g.stars) (by (at goes_stars)) left r.stars
unfolding same_class
exactly_stars left = exactly_upto (at goes_stars) heads_star (present_at refl (λ n. refl) (exactly_star left)) (sub (just k.Const) goes_stars refl) (sub (just k.Star) goes_stars refl) 64 (apart (just k.Const) (just k.Star) refl)

pub exactly_ptrs : (left : ℕ) → Exactly (λ n. g.ptrs) (by (at goes_ptrs)) left r.ptrs
unfolding r.ptrs same_class
exactly_ptrs left = exactly_as ptrs_of (exactly_open (at goes_ptrs) (exactly_stars left)
    (exactly_maybe (at (just k.Amp)) (heads_the (is k.Amp)) (present_at refl (λ n. refl) exactly_token) (never_sub (is k.Amp)) (same_sub (is k.Amp)))
    (opens_maybe (heads_the (is k.Amp))) (apart goes_stars (just k.Amp) refl) (sub goes_stars goes_ptrs refl) (sub (just k.Amp) goes_ptrs refl))

abbrev pub starts_ptrs : Class → Bool
starts_ptrs c = just k.Star c || just k.Amp c

pub opens_ptrs : Opens (λ n. g.ptrs) (at starts_ptrs)
unfolding same_class
opens_ptrs = opens_as ptrs_of (opens_both (opens_sub (sub (just k.Star) starts_ptrs refl) (opens_upto heads_star 64)) (opens_sub (sub (just k.Amp) starts_ptrs refl) (opens_maybe (heads_the (is k.Amp)))))
