-- Which tokens can go on with what was read by a rule.
use Rattle.std.specs.Prelude.{ℕ, zero, suc, Bool, ◌||◌, if◌then◌else◌}
use Rattle.cx_syntax.specs.declared.class.Class.{Class}
use Rattle.cx_syntax.specs.declared.class.Class.TheVariants as k
use Rattle.cx_syntax.specs.declared.lexeme.Lexeme.{Lexeme}
use Rattle.cx_syntax.specs.Sets.{operators, is_string, starts_specs, starts_given, starts_more, starts_tail, starts_assign}
use Rattle.cx_syntax.specs.Values.{Operand}
use Rattle.cx_syntax.specs.Readers.{just}

-- a qualified name
abbrev pub goes_name : Class → Bool
goes_name c = just k.ColonColon c

abbrev pub goes_stars : Class → Bool
goes_stars c = just k.Star c || just k.Const c

abbrev pub goes_ptrs : Class → Bool
goes_ptrs c = goes_stars c || just k.Amp c

abbrev pub goes_typeid : Class → Bool
goes_typeid c = starts_specs c || (goes_ptrs c || just k.OpenBracket c)

abbrev pub goes_head : Class → Bool
goes_head c = is_string c || goes_name c

abbrev pub goes_postfix : Class → Bool
goes_postfix c = goes_head c || starts_more c

-- the type of a `new`
abbrev pub goes_new : Class → Bool
goes_new c = starts_specs c || (just k.Star c || (just k.OpenBracket c || starts_given c))

-- operands of the levels below this one, which do not end in the type of a `new`, and which do
abbrev pub goes_closed : ℕ → Class → Bool
goes_closed zero c = goes_postfix c
goes_closed (suc p) c = goes_closed p c || operators p c

abbrev pub goes_open : ℕ → Class → Bool
goes_open zero c = goes_new c
goes_open (suc p) c = goes_open p c || operators p c

abbrev pub goes_by : ℕ → Bool → Class → Bool
goes_by p open_new c = if open_new then goes_open p c else goes_closed p c

abbrev pub goes_operand : ℕ → Operand → Lexeme → Bool
goes_operand p v t = goes_by p v.1 t.class

abbrev pub goes_chain : Class → Bool
goes_chain c = goes_closed 10 c || goes_open 10 c

-- an assign or a cond
abbrev pub goes_assign : Class → Bool
goes_assign c = goes_chain c || (starts_tail c || starts_assign c)

abbrev pub goes_args : Class → Bool
goes_args c = goes_assign c || just k.Comma c

abbrev pub goes_clauses : Class → Bool
goes_clauses c = goes_assign c || (just k.Comma c || just k.OpenBrace c)
