-- Constructors and destructors are read exactly behind their attributes and modifiers ([class.ctor], [class.dtor], [class.base.init]).
use Rattle.std.proofs.Common.{◌≡◌, ℕ, Bool, true, false, not, ◌&&◌, ◌||◌, if◌then◌else◌, List, [], ◌∷◌, ◌++◌, None, refl, sym, ◌∙◌, ap, subst, inl}
use Rattle.cx_grammar.specs.Language.{maybe, separated, present, nothing, some, whole, in_first, in_second, ◌>>◌, ◌<$>◌, ◌⊲◌}
use Rattle.cx_grammar.specs.Exact.{Family, GoesOn, Outcome, Within}
use Rattle.cx_grammar.specs.Reading.{made, sees, ◌>>◌ as ◌|>◌}
use Rattle.cx_grammar.specs.Sets.{by, never}
use Rattle.cx_tree.specs.declared.names.DestructorName.{DestructorName}
use Rattle.cx_grammar.proofs.Heads.{Heads, heads_as, heads_behind, heads_both, heads_before, heads_measured, heads_or, heads_sub, opens_maybe, opens_sub, never_apart, never_sub, same_sub}
use Rattle.cx_grammar.proofs.Steps.{Exactly, exactly_token, exactly_as, exactly_before, exactly_behind, exactly_both, exactly_maybe, exactly_separated}
use Rattle.cx_grammar.proofs.Levels.{there_present, present_at}
use Rattle.cx_grammar.proofs.Choices.{Right, right_of, first_of_two}
use Rattle.cx_grammar.proofs.Sides.{exactly_measured}
use Rattle.cx_tree.specs.declared.names.Ident.{Ident}
use Rattle.cx_tree.specs.declared.decls.ConstructorBody.{ConstructorBody}
use Rattle.cx_tree.specs.declared.decls.ConstructorBody.TheVariants as ends
use Rattle.cx_tree.specs.declared.decls.MemberName.{MemberName}
use Rattle.cx_tree.specs.declared.decls.MemberName.TheVariants as named
use Rattle.cx_syntax.specs.declared.class.Class.{Class}
use Rattle.cx_syntax.specs.declared.class.Class.TheVariants as k
use Rattle.cx_syntax.specs.declared.lexeme.Lexeme.{Lexeme}
use Rattle.cx_syntax.specs.Classes.{is, same_class}
use Rattle.cx_syntax.specs.Goes.{goes_name}
use Rattle.cx_syntax.specs.Sets.{is_id, is_name, is_type, starts_given, starts_name}
use Rattle.cx_syntax.specs.Values.{span_of, ident_of}
use Rattle.cx_syntax.specs.Grammar as e
use Rattle.cx_syntax.specs.Readers as er
use Rattle.cx_syntax.specs.Readers.{just}
use Rattle.cx_syntax.proofs.Basics.{at, apart, sub, exactly_choice, exactly_stays, exactly_widened, heads_after, heads_pick, begun_pick}
use Rattle.cx_syntax.proofs.Beside.{Covers, covers_present, first_begun, second_begun}
use Rattle.cx_syntax.proofs.Depth.{heads_given}
use Rattle.cx_syntax.proofs.Exact.{sound}
use Rattle.cx_syntax.proofs.Fronts.{never_as, never_covers, none_front}
use Rattle.cx_syntax.proofs.Lists.{exactly_given}
use Rattle.cx_syntax.proofs.Names.{exactly_destructor_name, exactly_qtype, heads_destructor_name, heads_qtype}
use Rattle.cx_syntax_parts.specs.Goes.{goes_noex}
use Rattle.cx_syntax_parts.specs.Grammar as pg
use Rattle.cx_syntax_parts.specs.Sets.{starts_tail}
use Rattle.cx_syntax_stmts.specs.Grammar as sg
use Rattle.cx_syntax_stmts.specs.Readers as sr
use Rattle.cx_syntax_vars.proofs.Names.{never_qtype}
use Rattle.cx_syntax_decls.specs.Grammar as g
use Rattle.cx_syntax_decls.specs.Readers as r
use Rattle.cx_syntax_decls.specs.Values.{member_init_of, block_made_of}
use Rattle.cx_syntax_decls.proofs.Functions.{exactly_noex_end, exactly_paren_params, heads_noex_end, heads_paren_params, starts_noex_end}
use Rattle.cx_syntax_decls.proofs.Lower.{opens_noex, exactly_noex, heads_tail, exactly_tail, heads_block, exactly_block}

-- ---- member initializers

abbrev type_member : Family Lexeme MemberName
type_member n = named.Type <$> e.qtype

abbrev id_member : Family Lexeme MemberName
id_member n = named.Ident <$> e.id

heads_type_member : Heads type_member (at starts_name)
heads_type_member = heads_as named.Type heads_qtype

heads_id_member : Heads id_member (at is_id)
heads_id_member = heads_as named.Ident (heads_pick is_id ident_of)

pub heads_member_name : Heads (λ n. g.member_name) (at starts_name)
heads_member_name = heads_sub (sub (λ c. starts_name c || is_id c) starts_name refl) (heads_or heads_type_member heads_id_member)

type_right : (left : ℕ) (ts : List Lexeme) → Right (λ n. present (type_member n)) (by (at goes_name)) left ts (made named.Type (er.qtype ts))
type_right left ts = there_present refl (λ n. refl) (right_of (exactly_as named.Type (exactly_qtype left)) ts)

id_right : (left : ℕ) (ts : List Lexeme) → Right (λ n. present (id_member n)) (by (at goes_name)) left ts (made named.Ident (er.id ts))
id_right left ts = there_present refl (λ n. refl) (right_of (exactly_widened (never_sub (at goes_name)) (exactly_as named.Ident exactly_token)) ts)

-- an ID alone covers its token
id_covers : (t : Lexeme) (w : List Lexeme) → sees (is k.ColonColon) w ≡ true → Covers id_member (by (at goes_name)) (t ∷ w) (t ∷ [])
id_covers t [] colons = absurd (let c : false ≡ true = colons in cc)
id_covers t (u ∷ w) colons = record {
  only = λ n x y v c s. id_only x y v s.part.token c s.part.alone;
  ends = λ n x y c b. elim b [ nothing none ↦ none_front (t ∷ []) x none | whole v s ↦ ([], let d = id_cut x y s.token c s.alone in sym d.0) ];
}
  where
    id_cut : (x y : List Lexeme) (s : Lexeme) → t ∷ u ∷ w ≡ x ++ y → x ≡ s ∷ [] → (x ++ [] ≡ t ∷ []) × (y ≡ u ∷ w)
    id_cut x y s c alone = let d : t ∷ u ∷ w ≡ s ∷ y = c ∙ ap (λ l. l ++ y) alone in let heads : t ≡ s = cc in let tails : y ≡ u ∷ w = cc in (ap (λ l. l ++ []) alone ∙ ap (λ z. z ∷ []) (sym heads), tails)

    id_only : (x y : List Lexeme) (v : MemberName) (s : Lexeme) → t ∷ u ∷ w ≡ x ++ y → x ≡ s ∷ [] → Within (t ∷ []) x × GoesOn (by (at goes_name)) v y
    id_only x y v s c alone = let d = id_cut x y s c alone in (([], sym d.0), let P : List Lexeme → Type 0 = λ l. GoesOn (by (at goes_name)) v l in subst P (sym d.1) colons)

pub qtype_begins : (t : Lexeme) → is_name t.class ≡ true → e.qtype.begins (t ∷ [])
qtype_begins t i = in_second [] (t ∷ []) None refl (inl (record { value = tt; made = refl; part = refl }))
    (in_first (record { front = []; back = t ∷ []; cut = refl; turns = []; whole = refl; next = some refl (in_first (begun_pick is_name ident_of t i)) }))

abbrev name_read : Bool → List Lexeme → Outcome Lexeme MemberName
name_read b ts = if b then made named.Ident (er.id ts) else made named.Type (er.qtype ts)

name_by : (left : ℕ) (t : Lexeme) (w : List Lexeme) (i c : Bool) → is_id t.class ≡ i → sees (is k.ColonColon) w ≡ c → Right (λ n. g.member_name) (by (at goes_name)) left (t ∷ w) (name_read (i && not c) (t ∷ w))
name_by left t w false c id colons = first_of_two (type_right left (t ∷ w)) heads_id_member id
name_by left t w true false id colons = second_begun (id_right left (t ∷ w)) (t ∷ []) w refl (covers_present (never_covers (by (at goes_name)) (never_as named.Type (never_qtype t w id colons)))) (some refl (begun_pick is_id ident_of t id))
name_by left t w true true id colons = first_begun (type_right left (t ∷ w)) (t ∷ []) w refl (covers_present (id_covers t w colons)) (some refl (qtype_begins t (sub is_id is_name refl t id)))

name_at : (left : ℕ) (ts : List Lexeme) → Right (λ n. g.member_name) (by (at goes_name)) left ts (r.member_name ts)
unfolding r.member_name
name_at left [] = first_of_two (type_right left []) heads_id_member refl
name_at left (t ∷ w) = name_by left t w (is_id t.class) (sees (is k.ColonColon) w) refl refl

pub exactly_member_name : (left : ℕ) → Exactly (λ n. g.member_name) (by (at goes_name)) left r.member_name
exactly_member_name left = record { at = λ ts. (name_at left ts).exact }

pub heads_minit : Heads (λ n. g.minit n) (at starts_name)
heads_minit = heads_as member_init_of (heads_measured span_of (heads_both (λ n. e.given (e.deeper n)) heads_member_name))

pub exactly_minit : (left : ℕ) → Exactly (λ n. g.minit n) (by never) left (r.minit left)
unfolding r.minit same_class
exactly_minit left = exactly_as member_init_of (exactly_measured span_of (exactly_both (exactly_member_name left) (exactly_given left (sound left)) heads_given (apart goes_name starts_given refl)))

pub exactly_minits : (left : ℕ) → Exactly (λ n. g.minits n) (by (at (just k.Comma))) left (r.minits left)
unfolding r.minits
exactly_minits left = exactly_before (is k.Colon) (exactly_separated (at (just k.Comma)) heads_minit (is k.Comma) (exactly_minit left) (present_at refl (λ n. refl) (exactly_before (is k.Comma) (exactly_minit left)))
    (never_apart (is k.Comma)) (never_sub (at (just k.Comma))) (same_sub (is k.Comma)))

pub heads_minits : Heads (λ n. g.minits n) (at (just k.Colon))
heads_minits = heads_before {G = λ n. separated (is k.Comma) (g.minit n)} (is k.Colon)

-- ---- the end of a constructor

abbrev goes_minits : Class → Bool
goes_minits c = just k.Colon c || just k.Comma c

abbrev starts_made : Class → Bool
starts_made c = just k.Colon c || just k.OpenBrace c

abbrev made_block : Family Lexeme ConstructorBody
made_block n = block_made_of <$> (maybe (g.minits n) >> sg.block n)

heads_made_block : Heads made_block (at starts_made)
unfolding same_class
heads_made_block = heads_as block_made_of (heads_after (opens_sub (sub (just k.Colon) starts_made refl) (opens_maybe heads_minits)) (λ n. inl refl) (heads_sub (sub (just k.OpenBrace) starts_made refl) heads_block))

exactly_made_block : (left : ℕ) → Exactly made_block (by never) left (λ ts. made block_made_of ((r.maybe_minits left |> sr.block left) ts))
unfolding same_class
exactly_made_block left = exactly_as block_made_of (exactly_both (exactly_maybe (at goes_minits) heads_minits (present_at refl (λ n. refl) (exactly_minits left)) (sub (just k.Comma) goes_minits refl) (sub (just k.Colon) goes_minits refl))
    (exactly_block left) heads_block (apart goes_minits (just k.OpenBrace) refl))

abbrev pub starts_ctor_body : Class → Bool
starts_ctor_body c = starts_tail c || starts_made c

pub heads_ctor_body : Heads (λ n. g.ctor_body n) (at starts_ctor_body)
heads_ctor_body = heads_or (heads_as ends.Tail heads_tail) heads_made_block

pub exactly_ctor_body : (left : ℕ) → Exactly (λ n. g.ctor_body n) (by never) left (r.ctor_body left)
unfolding r.ctor_body same_class
exactly_ctor_body left = exactly_choice starts_tail starts_made refl (heads_as ends.Tail heads_tail) heads_made_block
    (present_at refl (λ n. refl) (exactly_as ends.Tail (exactly_tail left))) (exactly_stays refl (λ n. refl) (exactly_made_block left))

abbrev starts_ctor_noex : Class → Bool
starts_ctor_noex c = just k.Noexcept c || starts_ctor_body c

heads_ctor_noex : Heads (λ n. pg.noex n >> g.ctor_body n) (at starts_ctor_noex)
unfolding same_class
heads_ctor_noex = heads_after (opens_sub (sub (just k.Noexcept) starts_ctor_noex refl) opens_noex) (λ n. inl refl) (heads_sub (sub starts_ctor_body starts_ctor_noex refl) heads_ctor_body)

pub exactly_ctor_end : (left : ℕ) → Exactly (λ n. g.ctor_end n) (by never) left (r.ctor_end left)
unfolding r.ctor_end same_class
exactly_ctor_end left = exactly_both exactly_token (exactly_both (exactly_paren_params left) (exactly_both (exactly_noex left) (exactly_ctor_body left) heads_ctor_body (apart goes_noex starts_ctor_body refl)) heads_ctor_noex (never_apart (at starts_ctor_noex)))
    (heads_both (λ n. pg.noex n >> g.ctor_body n) heads_paren_params) (never_apart (at (just k.OpenParen)))

pub heads_ctor_end : Heads (λ n. g.ctor_end n) (at is_type)
heads_ctor_end = heads_both (λ n. g.paren_params n >> pg.noex n >> g.ctor_body n) (heads_pick is_type ident_of)

-- ---- the end of a destructor

abbrev dtor_name : Family Lexeme DestructorName
dtor_name n = e.destructor_name ⊲ is k.OpenParen ⊲ is k.CloseParen

pub exactly_dtor_end : (left : ℕ) → Exactly (λ n. g.dtor_end n) (by never) left (r.dtor_end left)
unfolding r.dtor_end
exactly_dtor_end left = exactly_both (exactly_behind (is k.CloseParen) (exactly_behind (is k.OpenParen) (exactly_destructor_name left) (never_apart (is k.OpenParen))) (never_apart (is k.CloseParen)))
    (exactly_noex_end left) heads_noex_end (never_apart (at starts_noex_end))

pub heads_dtor_end : Heads (λ n. g.dtor_end n) (at (just k.Tilde))
heads_dtor_end = heads_both (λ n. pg.noex n >> pg.virt >> g.body n) (heads_behind {G = λ n. e.destructor_name ⊲ is k.OpenParen} (is k.CloseParen) (heads_behind {G = λ n. e.destructor_name} (is k.OpenParen) heads_destructor_name))
