-- What begins a symbol can be continued to a spelling, at the same number of levels.
use Rattle.std.proofs.Common.{◌≡◌, ℕ, zero, suc, Bool, true, false, ◌&&◌, ◌||◌, List, [], ◌∷◌, ◌++◌, Option, Some, None, refl, sym, ◌∙◌, ap, subst, inl, inr, append_assoc, if◌then◌else◌}
use Rattle.std.proofs.lemmas.List.{append-nil}
use Rattle.cx_grammar.specs.Language.{Language, one, the, passing, nothing, whole, BeginsPresent, none_yet, some, in_first, in_second, ◌>>◌, ◌<$>◌, ◌∥◌, ◌⊳◌, ◌⊲◌, maybe, many, SpellsMany, upto, measured, absent, there}
use Rattle.cx_syntax.specs.Linked.{then_by, then_first, then_second, links, SpellsLinks, flag_behind}

-- the tokens with some behind them spell a value
pub record Goes {T A : Type 0} (g : Language T A) (x : List T) : Type 0 where
  pub more : List T
  pub value : A
  pub spelled : g.spells (x ++ more) value

-- Where by its marks the language stays at the level, it has a spelling, and each front with a token goes on to one.
pub record Viable {T A : Type 0} (g : Language T A) : Type 0 where
  pub any : g.stays ≡ true → Goes g []
  pub front : g.stays ≡ true → (t : T) (x : List T) → g.begins (t ∷ x) → Goes g (t ∷ x)

pub and_left : (b c : Bool) → (b && c) ≡ true → b ≡ true
and_left true c e = refl
and_left false c e = e

pub and_right : (b c : Bool) → (b && c) ≡ true → c ≡ true
and_right true c e = e
and_right false c e = cc

-- ---- tokens

-- a token that begins is the whole
pub front_one : {T A : Type 0} (f : T → Option A) (t : T) (x : List T) → (one f).begins (t ∷ x) → Goes (one f) (t ∷ x)
front_one f t x b = elim b [ nothing none ↦ cc | whole w z ↦ record { more = []; value = w; spelled = record { token = z.token; alone = append-nil (t ∷ x) ∙ z.alone; fits = z.fits } } ]

pub viable_one : {T A : Type 0} (f : T → Option A) (t : T) (v : A) → f t ≡ Some v → Viable (one f)
viable_one f t v e = record {
  any = λ s. record { more = t ∷ []; value = v; spelled = record { token = t; alone = refl; fits = e } };
  front = λ s u x b. front_one f u x b;
}

pub viable_the : {T : Type 0} (p : T → Bool) (t : T) → p t ≡ true → Viable (the p)
viable_the p t e = viable_one (passing p) t tt (ap (λ b. if b then Some tt else None) e)

-- ---- one part and then another

module _ {T A B : Type 0} {g : Language T A} {h : Language T B} (a : g.stays ≡ true → (t : T) (x : List T) → g.begins (t ∷ x) → Goes g (t ∷ x)) (b : Viable h) where
  pub both_spelled : (x f k l : List T) (v : A) (w : B) → x ≡ f ++ k → g.spells f v → h.spells (k ++ l) w → (g >> h).spells (x ++ l) (v, w)
  both_spelled x f k l v w cut s z = record { front = f; back = k ++ l; cut = ap (λ y. y ++ l) cut ∙ append_assoc f k l; first = s; second = z }

  pub both_front : (s : (g.stays && h.stays) ≡ true) (t : T) (x : List T) → (g >> h).begins (t ∷ x) → Goes (g >> h) (t ∷ x)
  both_front s t x (in_first c) = let p = a (and_left g.stays h.stays s) t x c in let q = b.any (and_right g.stays h.stays s) in
      record { more = p.more ++ q.more; value = (p.value, q.value); spelled = record { front = t ∷ x ++ p.more; back = q.more; cut = sym (append_assoc (t ∷ x) p.more q.more); first = p.spelled; second = q.spelled } }
  both_front s t x (in_second f [] v cut z c) = let q = b.any (and_right g.stays h.stays s) in record { more = q.more; value = (v, q.value); spelled = both_spelled (t ∷ x) f [] q.more v q.value cut z q.spelled }
  both_front s t x (in_second f (u ∷ k) v cut z c) = let q = b.front (and_right g.stays h.stays s) u k c in record { more = q.more; value = (v, q.value); spelled = both_spelled (t ∷ x) f (u ∷ k) q.more v q.value cut z q.spelled }

pub viable_both : {T A B : Type 0} {g : Language T A} {h : Language T B} → Viable g → Viable h → Viable (g >> h)
viable_both {g = g} {h = h} a b = record {
  any = λ s. let p = a.any (and_left g.stays h.stays s) in let q = b.any (and_right g.stays h.stays s) in
      record { more = p.more ++ q.more; value = (p.value, q.value); spelled = record { front = p.more; back = q.more; cut = refl; first = p.spelled; second = q.spelled } };
  front = λ s t x c. both_front a.front b s t x c;
}

pub viable_as : {T A B : Type 0} {g : Language T A} (f : A → B) → Viable g → Viable (f <$> g)
viable_as f a = record {
  any = λ s. let p = a.any s in record { more = p.more; value = f p.value; spelled = record { value = p.value; made = refl; part = p.spelled } };
  front = λ s t x b. let p = a.front s t x b in record { more = p.more; value = f p.value; spelled = record { value = p.value; made = refl; part = p.spelled } };
}

pub viable_measured : {T A M : Type 0} {g : Language T A} (f : List T → M) → Viable g → Viable (measured f g)
viable_measured f a = record {
  any = λ s. let p = a.any s in record { more = p.more; value = (p.value, f p.more); spelled = record { part = p.spelled; measure = refl } };
  front = λ s t x b. let p = a.front s t x b in record { more = p.more; value = (p.value, f (t ∷ x ++ p.more)); spelled = record { part = p.spelled; measure = refl } };
}

-- ---- alternatives

module _ {T A : Type 0} {g h : Language T A} (a : Viable g) (b : Viable h) where
  pub or_any : (c : Bool) → g.stays ≡ c → (c || h.stays) ≡ true → Goes (g ∥ h) []
  or_any true e s = let p = a.any e in record { more = p.more; value = p.value; spelled = inl p.spelled }
  or_any false e s = let p = b.any s in record { more = p.more; value = p.value; spelled = inr p.spelled }

  pub or_front : (t : T) (x : List T) → (g ∥ h).begins (t ∷ x) → Goes (g ∥ h) (t ∷ x)
  or_front t x (inl (none_yet e)) = cc
  or_front t x (inr (none_yet e)) = cc
  or_front t x (inl (some s c)) = let p = a.front s t x c in record { more = p.more; value = p.value; spelled = inl p.spelled }
  or_front t x (inr (some s c)) = let p = b.front s t x c in record { more = p.more; value = p.value; spelled = inr p.spelled }

  pub viable_or : Viable (g ∥ h)
  viable_or = record { any = λ s. or_any g.stays refl s; front = λ s t x c. or_front t x c }

module _ {T A : Type 0} {g : Language T A} (a : Viable g) where
  pub maybe_front : (t : T) (x : List T) → (maybe g).begins (t ∷ x) → Goes (maybe g) (t ∷ x)
  maybe_front t x (inl e) = cc
  maybe_front t x (inr (none_yet e)) = cc
  maybe_front t x (inr (some s c)) = let p = a.front s t x c in record { more = p.more; value = Some p.value; spelled = inr (record { value = p.value; made = refl; part = p.spelled }) }

  pub viable_maybe : Viable (maybe g)
  viable_maybe = record { any = λ s. record { more = []; value = None; spelled = inl (record { value = tt; made = refl; part = refl }) }; front = λ s t x c. maybe_front t x c }

  -- ---- repetitions

  pub more_turns : (x f k : List T) (vs : List A) (v : A) → x ≡ f ++ k → SpellsMany g f vs → g.spells k v → SpellsMany g x (vs ++ v ∷ [])
  more_turns x f k [] v e s z = (x, [], sym (append-nil x), (let P : List T → Type 0 = λ l. g.spells l v in subst P (sym (e ∙ ap (λ l. l ++ k) s)) z), refl)
  more_turns x f k (u ∷ us) v e s z = (s.0, s.1 ++ k, e ∙ (ap (λ l. l ++ k) s.2 ∙ append_assoc s.0 s.1 k), s.3, more_turns (s.1 ++ k) s.1 k us v refl s.4 z)

  pub many_at : (x f k : List T) (vs : List A) → x ≡ f ++ k → SpellsMany g f vs → BeginsPresent g k → Goes (many g) x
  many_at x f [] vs e s b = record { more = []; value = vs; spelled = let P : List T → Type 0 = λ l. SpellsMany g l vs in subst P (sym (append-nil x ∙ (e ∙ append-nil f))) s }
  many_at x f (u ∷ k) vs e s (none_yet c) = cc
  many_at x f (u ∷ k) vs e s (some st c) = let p = a.front st u k c in
      record { more = p.more; value = vs ++ p.value ∷ []; spelled = more_turns (x ++ p.more) f (u ∷ k ++ p.more) vs p.value (ap (λ l. l ++ p.more) e ∙ append_assoc f (u ∷ k) p.more) s p.spelled }

  pub viable_many : Viable (many g)
  viable_many = record { any = λ s. record { more = []; value = []; spelled = refl }; front = λ s t x b. many_at (t ∷ x) b.front b.back b.turns b.cut b.whole b.next }

  pub upto_any : (most : ℕ) → Goes (upto most g) []
  upto_any zero = record { more = []; value = []; spelled = record { value = tt; made = refl; part = refl } }
  upto_any (suc most) = record { more = []; value = []; spelled = inr (record { value = tt; made = refl; part = refl }) }

  pub upto_front : (most : ℕ) (t : T) (x : List T) → (upto most g).begins (t ∷ x) → Goes (upto most g) (t ∷ x)
  upto_front zero t x b = cc
  upto_front (suc most) t x (inr b) = cc
  upto_front (suc most) t x (inl (in_first (none_yet e))) = cc
  upto_front (suc most) t x (inl (in_first (some s c))) = let p = a.front s t x c in let q = upto_any most in
      record { more = p.more ++ q.more; value = p.value ∷ q.value; spelled = inl (record { value = (p.value, q.value); made = refl; part = record { front = t ∷ x ++ p.more; back = q.more; cut = sym (append_assoc (t ∷ x) p.more q.more); first = p.spelled; second = q.spelled } }) }
  upto_front (suc most) t x (inl (in_second f [] v cut s c)) = let q = upto_any most in
      record { more = q.more; value = v ∷ q.value; spelled = inl (record { value = (v, q.value); made = refl; part = record { front = f; back = q.more; cut = ap (λ l. l ++ q.more) (cut ∙ append-nil f); first = s; second = q.spelled } }) }
  upto_front (suc most) t x (inl (in_second f (u ∷ k) v cut s c)) = let q = upto_front most u k c in
      record { more = q.more; value = v ∷ q.value; spelled = inl (record { value = (v, q.value); made = refl; part = record { front = f; back = u ∷ k ++ q.more; cut = ap (λ l. l ++ q.more) cut ∙ append_assoc f (u ∷ k) q.more; first = s; second = q.spelled } }) }

  pub viable_upto : (most : ℕ) → Viable (upto most g)
  viable_upto most = record { any = λ s. upto_any most; front = λ s t x b. upto_front most t x b }

pub viable_before : {T A : Type 0} {g : Language T A} (p : T → Bool) (t : T) → p t ≡ true → Viable g → Viable (p ⊳ g)
viable_before p t e a = viable_as (λ pair. pair.1) (viable_both (viable_the p t e) a)

pub viable_behind : {T A : Type 0} {g : Language T A} (p : T → Bool) (t : T) → p t ≡ true → Viable g → Viable (g ⊲ p)
viable_behind p t e a = viable_as (λ pair. pair.0) (viable_both a (viable_the p t e))

-- ---- what may follow a value, and turns

module _ {T A B : Type 0} {g : Language T A} {h : A → Language T B} (a : Viable g) (b : (v : A) → Viable (h v)) (stays : (v : A) → (h v).stays ≡ true) where
  pub then_front_goes : g.stays ≡ true → (t : T) (x : List T) → (then_by g h).begins (t ∷ x) → Goes (then_by g h) (t ∷ x)
  then_front_goes s t x (then_first c) = let p = a.front s t x c in let q = (b p.value).any (stays p.value) in
      record { more = p.more ++ q.more; value = (p.value, q.value); spelled = record { front = t ∷ x ++ p.more; back = q.more; cut = sym (append_assoc (t ∷ x) p.more q.more); first = p.spelled; second = q.spelled } }
  then_front_goes s t x (then_second f [] v cut z c) = let q = (b v).any (stays v) in
      record { more = q.more; value = (v, q.value); spelled = record { front = f; back = q.more; cut = ap (λ l. l ++ q.more) (cut ∙ append-nil f); first = z; second = q.spelled } }
  then_front_goes s t x (then_second f (u ∷ k) v cut z c) = let q = (b v).front (stays v) u k c in
      record { more = q.more; value = (v, q.value); spelled = record { front = f; back = u ∷ k ++ q.more; cut = ap (λ l. l ++ q.more) cut ∙ append_assoc f (u ∷ k) q.more; first = z; second = q.spelled } }

  pub viable_then : Viable (then_by g h)
  viable_then = record {
    any = λ s. let p = a.any s in let q = (b p.value).any (stays p.value) in record { more = p.more ++ q.more; value = (p.value, q.value); spelled = record { front = p.more; back = q.more; cut = refl; first = p.spelled; second = q.spelled } };
    front = then_front_goes;
  }

module _ {T B : Type 0} (h : Bool → Language T B) (flag : B → Bool) (a : (b : Bool) → ((h b).stays ≡ true → (t : T) (x : List T) → (h b).begins (t ∷ x) → Goes (h b) (t ∷ x))) where
  pub more_links : (b : Bool) (x f k : List T) (vs : List B) (v : B) → x ≡ f ++ k → SpellsLinks h flag b f vs → (h (flag_behind flag b vs)).spells k v → SpellsLinks h flag b x (vs ++ v ∷ [])
  more_links b x f k [] v e s z = (x, [], sym (append-nil x), (let P : List T → Type 0 = λ l. (h b).spells l v in subst P (sym (e ∙ ap (λ l. l ++ k) s)) z), refl)
  more_links b x f k (u ∷ us) v e s z = (s.0, s.1 ++ k, e ∙ (ap (λ l. l ++ k) s.2 ∙ append_assoc s.0 s.1 k), s.3, more_links (flag u) (s.1 ++ k) s.1 k us v refl s.4 z)

  pub links_at : (b : Bool) (x f k : List T) (vs : List B) → x ≡ f ++ k → SpellsLinks h flag b f vs → BeginsPresent (h (flag_behind flag b vs)) k → Goes (links h flag b) x
  links_at b x f [] vs e s n = record { more = []; value = vs; spelled = let P : List T → Type 0 = λ l. SpellsLinks h flag b l vs in subst P (sym (append-nil x ∙ (e ∙ append-nil f))) s }
  links_at b x f (u ∷ k) vs e s (none_yet c) = cc
  links_at b x f (u ∷ k) vs e s (some st c) = let p = a (flag_behind flag b vs) st u k c in
      record { more = p.more; value = vs ++ p.value ∷ []; spelled = more_links b (x ++ p.more) f (u ∷ k ++ p.more) vs p.value (ap (λ l. l ++ p.more) e ∙ append_assoc f (u ∷ k) p.more) s p.spelled }

  pub viable_links : (b : Bool) → Viable (links h flag b)
  viable_links b = record { any = λ s. record { more = []; value = []; spelled = refl }; front = λ s t x k. links_at b (t ∷ x) k.front k.back k.turns k.cut k.whole k.next }

-- ---- one level deeper

pub no_stay : false ≡ true → ⊥
no_stay e = cc

pub viable_absent : {T A : Type 0} → Viable {T = T} {A = A} absent
viable_absent = record { any = λ s. absurd (no_stay s); front = λ s. absurd (no_stay s) }

pub viable_there : {T A : Type 0} {g : Language T A} → g.stays ≡ true → Viable g → Viable (there g)
viable_there e a = record {
  any = λ s. let p = a.any e in record { more = p.more; value = p.value; spelled = p.spelled };
  front = λ s t x b. let p = a.front e t x b in record { more = p.more; value = p.value; spelled = p.spelled };
}
