-- What a class that is to be completed is, by what is asked of it.
use Rattle.std.proofs.Common.{◌≡◌, ◌<◌, false, Option, None, Some, refl, sym, ap, subst, ◌∙◌, length, slice_get}
use Rattle.std.specs.Prelude.{is_some, option_map, option_and_then}
use Rattle.cx_type_defs.specs.declared.ids.ClassId.{ClassId}
use Rattle.cx_type_defs.specs.declared.decl.ClassDecl.{ClassDecl}
use Rattle.cx_type_defs.specs.declared.decl.ClassBody.{ClassBody}
use Rattle.cx_type_defs.specs.declared.decl.ClassKey.{ClassKey}
use Rattle.cx_type_defs.specs.Tables.{Tables, body_at}
use Rattle.cx_type_defs.specs.Bodies.{IsFit, FitsClass}
use Rattle.cx_type_defs.specs.Refusals.{IsIncomplete}
use Rattle.cx_type_defs.proofs.Lists.{some_inj, slice_get-within}

pub fits-key : (t : Tables) (o : Option ClassDecl) (k : ClassKey) (b : ClassBody) → FitsClass t o b → option_map (λ (d : ClassDecl). d.key) o ≡ Some k → IsFit t k b
fits-key t None k b h e = absurd h
fits-key t (Some d) k b h e = subst (λ z. IsFit t z b) (some_inj d.key k e) h

pub key-fits : (t : Tables) (o : Option ClassDecl) (k : ClassKey) (b : ClassBody) → IsFit t k b → option_map (λ (d : ClassDecl). d.key) o ≡ Some k → FitsClass t o b
key-fits t None k b h e = absurd (cc)
key-fits t (Some d) k b h e = subst (λ z. IsFit t z b) (sym (some_inj d.key k e)) h

pub without-body : (t : Tables) (c : ClassId) → c.0 < length t.classes → is_some (body_at t c) ≡ false → IsIncomplete (slice_get t.classes c.0)
without-body t c less e =
    let d = slice_get-within t.classes c.0 less in
    subst IsIncomplete (sym d.1) (none d.0.body (sym (ap (λ (o : Option ClassDecl). is_some (option_and_then (λ (w : ClassDecl). w.body) o)) d.1) ∙ e))
  where
    none : (o : Option ClassBody) → is_some o ≡ false → o ≡ None
    none None h = refl
    none (Some b) h = absurd (cc)
