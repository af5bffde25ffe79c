-- What stands behind the name of a function is read exactly ([dcl.fct], [dcl.fct.def.general]).
use Rattle.std.proofs.Common.{ℕ, Bool, ◌||◌, List, [], Option, refl, inl, inr}
use Rattle.cx_grammar.specs.Language.{maybe, none_yet, in_first, ◌>>◌, ◌⊲◌}
use Rattle.cx_grammar.specs.Exact.{Family}
use Rattle.cx_grammar.specs.Sets.{by, never}
use Rattle.cx_grammar.proofs.Heads.{Heads, heads_as, heads_both, heads_before, heads_or, heads_sub, heads_the, opens_maybe, opens_sub, never_apart, never_sub, same_sub}
use Rattle.cx_grammar.proofs.Levels.{present_at}
use Rattle.cx_grammar.proofs.Steps.{Exactly, exactly_token, exactly_as, exactly_before, exactly_behind, exactly_both, exactly_maybe}
use Rattle.cx_tree.specs.declared.names.FunctionName.{FunctionName}
use Rattle.cx_tree.specs.declared.decls.Param.{Param}
use Rattle.cx_tree.specs.declared.decls.Body.TheVariants as bodies
use Rattle.cx_syntax.specs.declared.class.Class.{Class}
use Rattle.cx_syntax.specs.declared.class.Class.TheVariants as k
use Rattle.cx_syntax.specs.declared.lexeme.Lexeme.{Lexeme}
use Rattle.cx_syntax.specs.Classes.{is, same_class}
use Rattle.cx_syntax.specs.Goes.{goes_name, goes_ptrs}
use Rattle.cx_syntax.specs.Sets.{starts_fname}
use Rattle.cx_syntax.specs.Grammar as e
use Rattle.cx_syntax.specs.Readers.{just}
use Rattle.cx_syntax.proofs.Basics.{at, apart, sub, exactly_choice, exactly_stays, heads_after}
use Rattle.cx_syntax.proofs.Names.{exactly_fname, heads_fname}
use Rattle.cx_syntax.proofs.Specifiers.{exactly_ptrs, opens_ptrs, starts_ptrs}
use Rattle.cx_syntax_parts.specs.Grammar as pg
use Rattle.cx_syntax_parts.specs.Goes.{goes_noex}
use Rattle.cx_syntax_parts.specs.Sets.{is_virtual, starts_tail}
use Rattle.cx_syntax_vars.specs.Goes.{goes_params}
use Rattle.cx_syntax_vars.specs.Grammar as vg
use Rattle.cx_syntax_vars.specs.Sets.{starts_param}
use Rattle.cx_syntax_decls.specs.Grammar as g
use Rattle.cx_syntax_decls.specs.Readers as r
use Rattle.cx_syntax_decls.specs.Values.{function_of, FunctionEnd}
use Rattle.cx_syntax_decls.proofs.Lower.{opens_noex, exactly_noex, opens_virt, exactly_virt, heads_tail, exactly_tail, heads_params, exactly_params, heads_block, exactly_block}

-- ---- a tail or a block

abbrev pub starts_body : Class → Bool
starts_body c = starts_tail c || just k.OpenBrace c

pub heads_body : Heads (λ n. g.body n) (at starts_body)
unfolding same_class
heads_body = heads_or (heads_as bodies.Tail heads_tail) (heads_as bodies.Block heads_block)

pub exactly_body : (left : ℕ) → Exactly (λ n. g.body n) (by never) left (r.body left)
unfolding r.body same_class
exactly_body left = exactly_choice starts_tail (just k.OpenBrace) refl (heads_as bodies.Tail heads_tail) (heads_as bodies.Block heads_block)
    (present_at refl (λ n. refl) (exactly_as bodies.Tail (exactly_tail left))) (exactly_stays refl (λ n. refl) (exactly_as bodies.Block (exactly_block left)))

-- ---- what stands before it

abbrev pub starts_virt_end : Class → Bool
starts_virt_end c = is_virtual c || starts_body c

pub heads_virt_end : Heads (λ n. pg.virt >> g.body n) (at starts_virt_end)
unfolding same_class
heads_virt_end = heads_after (opens_sub (sub is_virtual starts_virt_end refl) opens_virt) (λ n. record { front = []; back = []; cut = refl; turns = []; whole = refl; next = none_yet refl }) (heads_sub (sub starts_body starts_virt_end refl) heads_body)

pub exactly_virt_end : (left : ℕ) → Exactly (λ n. pg.virt >> g.body n) (by never) left (r.virt_end left)
unfolding same_class
exactly_virt_end left = exactly_both (exactly_virt left) (exactly_body left) heads_body (apart is_virtual starts_body refl)

abbrev pub starts_noex_end : Class → Bool
starts_noex_end c = just k.Noexcept c || starts_virt_end c

pub heads_noex_end : Heads (λ n. pg.noex n >> pg.virt >> g.body n) (at starts_noex_end)
unfolding same_class
heads_noex_end = heads_after (opens_sub (sub (just k.Noexcept) starts_noex_end refl) opens_noex) (λ n. inl refl) (heads_sub (sub starts_virt_end starts_noex_end refl) heads_virt_end)

pub exactly_noex_end : (left : ℕ) → Exactly (λ n. pg.noex n >> pg.virt >> g.body n) (by never) left (r.noex_end left)
unfolding same_class
exactly_noex_end left = exactly_both (exactly_noex left) (exactly_virt_end left) heads_virt_end (apart goes_noex starts_virt_end refl)

abbrev pub starts_function_end : Class → Bool
starts_function_end c = just k.Const c || starts_noex_end c

pub heads_function_end : Heads (λ n. g.function_end n) (at starts_function_end)
unfolding same_class
heads_function_end = heads_after (opens_sub (sub (just k.Const) starts_function_end refl) (opens_maybe (heads_the (is k.Const)))) (λ n. inl refl) (heads_sub (sub starts_noex_end starts_function_end refl) heads_noex_end)

pub exactly_function_end : (left : ℕ) → Exactly (λ n. g.function_end n) (by never) left (r.function_end left)
unfolding r.function_end same_class
exactly_function_end left = exactly_both (exactly_maybe (at (just k.Const)) (heads_the (is k.Const)) (present_at refl (λ n. refl) exactly_token) (never_sub (is k.Const)) (same_sub (is k.Const)))
    (exactly_noex_end left) heads_noex_end (apart (just k.Const) starts_noex_end refl)

-- ---- parameters in parentheses

pub heads_paren_params : Heads (λ n. g.paren_params n) (at (just k.OpenParen))
heads_paren_params = heads_before {G = λ n. maybe (vg.params n) ⊲ is k.CloseParen} (is k.OpenParen)

abbrev pub goes_maybe_params : Class → Bool
goes_maybe_params c = starts_param c || goes_params c

pub exactly_paren_params : (left : ℕ) → Exactly (λ n. g.paren_params n) (by never) left (r.paren_params left)
unfolding r.paren_params same_class
exactly_paren_params left = exactly_before (is k.OpenParen) (exactly_behind (is k.CloseParen)
    (exactly_maybe (at goes_maybe_params) heads_params (present_at refl (λ n. refl) (exactly_params left)) (sub goes_params goes_maybe_params refl) (sub starts_param goes_maybe_params refl))
    (apart goes_maybe_params (just k.CloseParen) refl))

-- ---- a function

abbrev pub starts_function : Class → Bool
starts_function c = starts_ptrs c || starts_fname c

abbrev pub behind_ptrs : Family Lexeme (FunctionName × (Option (List Param) × FunctionEnd))
behind_ptrs n = e.fname >> g.paren_params n >> g.function_end n

pub heads_behind_ptrs : Heads behind_ptrs (at starts_fname)
heads_behind_ptrs = heads_both (λ n. g.paren_params n >> g.function_end n) heads_fname

pub heads_function : Heads (λ n. g.function n) (at starts_function)
unfolding same_class
heads_function = heads_as function_of (heads_after (opens_sub (sub starts_ptrs starts_function refl) opens_ptrs) (λ n. in_first (blank_stars)) (heads_sub (sub starts_fname starts_function refl) heads_behind_ptrs))
  where
    blank_stars : e.stars.begins []
    blank_stars = inr refl

pub exactly_function : (left : ℕ) → Exactly (λ n. g.function n) (by never) left (r.function left)
unfolding r.function same_class
exactly_function left = exactly_as function_of (exactly_both (exactly_ptrs left)
    (exactly_both (exactly_fname left) (exactly_both (exactly_paren_params left) (exactly_function_end left) heads_function_end (never_apart (at starts_function_end)))
    (heads_both (λ n. g.function_end n) heads_paren_params) (apart goes_name (just k.OpenParen) refl))
    heads_behind_ptrs (apart goes_ptrs starts_fname refl))
