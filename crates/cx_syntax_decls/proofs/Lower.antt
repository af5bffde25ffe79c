-- What the crates below say of the symbols that declarations are made from: what they begin with, that their readers are exact, and the laws.
pub use Rattle.cx_syntax_parts.proofs.Soup.{opens_attrs, exactly_attrs, opens_noex, exactly_noex}
pub use Rattle.cx_syntax_parts.proofs.Words.{heads_tail, exactly_tail, opens_virt, exactly_virt, heads_access}
pub use Rattle.cx_syntax_parts.proofs.Declarations.{blank_attrs, heads_assert, exactly_assert, heads_alias, exactly_alias}
pub use Rattle.cx_syntax_parts.proofs.Enums.{heads_enum, exactly_enum}
pub use Rattle.cx_syntax_parts.proofs.Endless.{endless_access, endless_alias, endless_assert, endless_attrs, endless_enum, endless_noex, endless_tail, endless_virt}
pub use Rattle.cx_syntax_parts.proofs.Viable.{viable_access, viable_alias, viable_assert, viable_attrs, viable_enum, viable_noex, viable_tail, viable_virt}
pub use Rattle.cx_syntax_vars.proofs.Typedefs.{heads_typedef, exactly_typedef}
pub use Rattle.cx_syntax_vars.proofs.Inits.{heads_init}
pub use Rattle.cx_syntax_vars.proofs.Vars.{heads_vars, exactly_vars}
pub use Rattle.cx_syntax_vars.proofs.Params.{heads_params, exactly_params}
pub use Rattle.cx_syntax_vars.proofs.Endless.{endless_params, endless_typedef, endless_vars}
pub use Rattle.cx_syntax_vars.proofs.Viable.{viable_params, viable_typedef, viable_vars}
pub use Rattle.cx_syntax_stmts.proofs.Depth.{heads_block}
pub use Rattle.cx_syntax_stmts.proofs.Exact.{exactly_block}
pub use Rattle.cx_syntax_stmts.proofs.Endless.{endless_block}
pub use Rattle.cx_syntax_stmts.proofs.Viable.{viable_block}
