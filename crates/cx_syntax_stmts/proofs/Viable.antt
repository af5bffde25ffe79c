-- Each symbol has a spelling, and each of its fronts goes on to one at the same number of levels.
use Rattle.std.proofs.Common.{◌≡◌, ℕ, zero, suc, Bool, true, false, ◌&&◌, ◌||◌, List, [], ◌∷◌, ◌++◌, Some, None, refl, sym, ◌∙◌, ap, subst, inl, inr, append_assoc}
use Rattle.std.proofs.lemmas.List.{append-nil}
use Rattle.cx_grammar.specs.Language.{Language, with_tail, none_yet, some, in_first, in_second}
use Rattle.cx_syntax.specs.declared.class.Class.TheVariants as k
use Rattle.cx_syntax.specs.Classes.{same_class}
use Rattle.cx_syntax.specs.Grammar as e
use Rattle.cx_syntax.specs.Readers.{just}
use Rattle.cx_syntax.specs.Sets.{is_id}
use Rattle.cx_syntax.specs.Values.{ident_of}
use Rattle.cx_syntax.proofs.Continued.{Goes, Viable, viable_both, viable_as, viable_or, viable_maybe, viable_many, viable_measured, viable_absent, viable_there}
use Rattle.cx_syntax.proofs.Viable.{some_pick, some_the, before, behind, viable_specs, viable_ptrs, viable_expr, viable_cond, viable_braces, viable_below as exprs_below}
use Rattle.cx_syntax_parts.proofs.Viable.{viable_attrs, viable_assert, viable_alias, viable_enum}
use Rattle.cx_syntax_vars.proofs.Viable.{viable_typedef, viable_local, viable_bare_local}
use Rattle.cx_syntax_stmts.specs.Grammar as g
use Rattle.cx_syntax_stmts.specs.Values.{place_of}
use Rattle.cx_syntax_stmts.proofs.PlainGoes.{viable_plain, viable_plain_deep}

-- ---- a part with a tail

module _ {T A B : Type 0} (p : A → Bool) {h : Language T A} {tail : Language T B} (a : Viable h) (b : Viable tail) where
  stays_first : (c d : Bool) → (c || (c && d)) ≡ true → c ≡ true
  stays_first true d e = refl
  stays_first false d e = e

  none_behind : (x more : List T) (v : A) → h.spells (x ++ more) v → Goes (with_tail p h tail) x
  none_behind x more v s = record { more = more; value = (v, None); spelled = inl (record { value = v; made = refl; part = s }) }

  pub tail_front : h.stays ≡ true → (t : T) (x : List T) → (with_tail p h tail).begins (t ∷ x) → Goes (with_tail p h tail) (t ∷ x)
  tail_front s t x (inl c) = let q = a.front s t x c in none_behind (t ∷ x) q.more q.value q.spelled
  tail_front s t x (inr (in_first c)) = let q = a.front s t x c in none_behind (t ∷ x) q.more q.value q.spelled
  tail_front s t x (inr (in_second f k v cut z (none_yet none))) = let P : List T → Type 0 = λ l. h.spells l v in
      none_behind (t ∷ x) [] v (subst P (sym (append-nil (t ∷ x) ∙ (cut ∙ (ap (λ l. f ++ l) none ∙ append-nil f)))) z.part)
  tail_front s t x (inr (in_second f [] v cut z (some st c))) = let P : List T → Type 0 = λ l. h.spells l v in none_behind (t ∷ x) [] v (subst P (sym (append-nil (t ∷ x) ∙ (cut ∙ append-nil f))) z.part)
  tail_front s t x (inr (in_second f (u ∷ k) v cut z (some st c))) = let q = b.front st u k c in record {
    more = q.more;
    value = (v, Some q.value);
    spelled = inr (record { value = (v, q.value); made = refl; part = record { front = f; back = (u ∷ k) ++ q.more; cut = ap (λ l. l ++ q.more) cut ∙ append_assoc f (u ∷ k) q.more; first = z; second = q.spelled } });
  }

  pub viable_with_tail : Viable (with_tail p h tail)
  viable_with_tail = record {
    any = λ s. let q = a.any (stays_first h.stays tail.stays s) in record { more = q.more; value = (q.value, None); spelled = inl (record { value = q.value; made = refl; part = q.spelled }) };
    front = λ s t x c. tail_front (stays_first h.stays tail.stays s) t x c;
  }

module _ (n : ℕ) where
  deep : Viable (e.deeper n).expr
  deep = (exprs_below n).expr

  viable_condition : Viable (g.condition n)
  unfolding same_class
  viable_condition = before k.OpenParen refl (behind k.CloseParen refl deep)

  pub viable_label : Viable (g.label n)
  unfolding same_class
  viable_label = viable_as _ (viable_measured _ (viable_or (viable_as _ (before k.Case refl (behind k.Colon refl (viable_cond (e.deeper n) (exprs_below n))))) (viable_as _ (before k.Default refl (some_the k.Colon refl)))))

  viable_expr_stmt : Viable (g.expr_stmt n)
  unfolding same_class
  viable_expr_stmt = viable_as _ (behind k.Semicolon refl (viable_plain n))

  viable_return : Viable (g.return_stmt n)
  unfolding same_class
  viable_return = viable_as _ (before k.Return refl (behind k.Semicolon refl (viable_maybe (viable_or (viable_as _ (viable_expr (e.deeper n) (exprs_below n))) (viable_as _ (viable_braces (e.deeper n) (exprs_below n)))))))

  viable_for_head : Viable (g.for_head n)
  unfolding same_class
  viable_for_head = viable_or
      (viable_as _ (viable_both (viable_or (viable_as _ (viable_bare_local n)) (viable_as _ (behind k.Semicolon refl (viable_maybe (viable_plain_deep n))))) (viable_both (behind k.Semicolon refl (viable_maybe deep)) (viable_maybe deep))))
      (viable_as _ (viable_both (viable_both viable_specs (viable_both viable_ptrs (some_pick is_id ident_of k.Ident refl))) (before k.Colon refl deep)))

  -- over the symbols one level deeper
  module _ (d : g.Deeper) (stmt : Viable d.stmt) (item : Viable d.item) where
    pub block_over : Viable (g.block_with n d)
    unfolding same_class
    block_over = viable_as _ (viable_measured _ (viable_both (before k.OpenBrace refl (viable_many item)) (some_pick (just k.CloseBrace) place_of k.CloseBrace refl)))

    viable_if : Viable (g.if_stmt n d)
    unfolding same_class
    viable_if = viable_as _ (viable_with_tail _ (viable_both (before k.If refl (viable_maybe (some_the k.Constexpr refl))) (viable_both viable_condition stmt)) (before k.Else refl stmt))

    viable_switch : Viable (g.switch_stmt n d)
    unfolding same_class
    viable_switch = viable_as _ (viable_both (before k.Switch refl viable_condition) (before k.OpenBrace refl (behind k.CloseBrace refl (viable_many (viable_or (viable_as _ viable_label) (viable_as _ item))))))

    viable_kind : Viable (g.stmt_kind n d)
    unfolding same_class
    viable_kind = viable_or (viable_as _ block_over) (viable_or (viable_as _ (some_the k.Semicolon refl)) (viable_or viable_if
        (viable_or (viable_as _ (viable_both (some_pick (just k.While) place_of k.While refl) (viable_both viable_condition stmt)))
        (viable_or (viable_as _ (viable_both (some_pick (just k.Do) place_of k.Do refl) (viable_both stmt (before k.While refl (behind k.Semicolon refl viable_condition)))))
        (viable_or (viable_as _ (viable_both (viable_both (some_pick (just k.For) place_of k.For refl) (before k.OpenParen refl (behind k.CloseParen refl viable_for_head))) stmt))
        (viable_or viable_switch
        (viable_or (viable_as _ (behind k.Semicolon refl (some_pick (just k.Break) place_of k.Break refl)))
        (viable_or (viable_as _ (behind k.Semicolon refl (some_pick (just k.Continue) place_of k.Continue refl)))
        (viable_or viable_return viable_expr_stmt)))))))))

    pub stmt_over : Viable (g.stmt_with n d)
    stmt_over = viable_as _ (viable_measured _ (viable_both (viable_attrs n) viable_kind))

    pub item_over : Viable (g.item_with n d)
    item_over = viable_or (viable_as _ (viable_assert n)) (viable_or (viable_as _ (viable_alias n)) (viable_or (viable_as _ viable_typedef) (viable_or (viable_as _ (viable_enum n)) (viable_or (viable_as _ stmt_over) (viable_as _ (viable_local n))))))

-- ---- levels

pub label_stays : (n : ℕ) → (g.label n).stays ≡ true
label_stays zero = refl
label_stays (suc n) = refl

pub stmt_stays : (n : ℕ) → (g.stmt n).stays ≡ true
stmt_stays zero = refl
stmt_stays (suc n) = refl

pub item_stays : (n : ℕ) → (g.item n).stays ≡ true
item_stays zero = refl
item_stays (suc n) = refl

pub record ViableBelow (d : g.Deeper) : Type 0 where
  pub stmt : Viable d.stmt
  pub item : Viable d.item

pub viable_below : (n : ℕ) → ViableBelow (g.deeper n)
viable_below zero = record { stmt = viable_absent; item = viable_absent }
viable_below (suc n) = let b = viable_below n in record {
  stmt = viable_there (stmt_stays n) (stmt_over n (g.deeper n) b.stmt b.item);
  item = viable_there (item_stays n) (item_over n (g.deeper n) b.stmt b.item);
}

pub viable_stmt : (n : ℕ) → Viable (g.stmt n)
viable_stmt n = let b = viable_below n in stmt_over n (g.deeper n) b.stmt b.item

pub viable_item : (n : ℕ) → Viable (g.item n)
viable_item n = let b = viable_below n in item_over n (g.deeper n) b.stmt b.item

pub viable_block : (n : ℕ) → Viable (g.block n)
viable_block n = let b = viable_below n in block_over n (g.deeper n) b.stmt b.item
