-- The definitions at small texts.
use Rattle.std.proofs.Common.{◌≡◌, true, false, [], ◌∷◌, Some, None, refl}
use Rattle.std.specs.Prelude.{codes}
use Rattle.cx_base.specs.declared.rule.Rule.TheVariants as rule
use Rattle.cx_ints.specs.declared.literals.Suffix.TheVariants as suffix
use Rattle.cx_token_defs.specs.declared.TokenKind.TheVariants as kind
use Rattle.cx_tokens.specs.Literals.{bad_escape, begins_escape, byte_flaw, escape_size, escape_value, is_bad_byte, is_closed, is_one_character, is_whole, literal_kind, literal_size, part_size, part_value, quoted, quoted_at, string_bytes}
use Rattle.cx_tokens.specs.Marks.{mark_of}
use Rattle.cx_tokens.specs.Names.{alternatives, encoding_prefixes, name, name_with, words, words_left_out}
use Rattle.cx_tokens.specs.Numbers.{are_digits, number_size, suffix_of, value_of}
use Rattle.cx_tokens.specs.Pieces.{white, token, faulty, broken, flaw}
use Rattle.cx_tokens.specs.Punctuators.{doubles, doubles_left_out, punctuator, singles, triples, triples_left_out}
use Rattle.cx_tokens.specs.Space.{block_comment, hash, line_comment}

marks : mark_of (codes "a\nbc") ≡ record { byte = 4; line = 2; col = 3 }
marks = refl

comment : block_comment (codes "/*/ */ b") ≡ white 6
unfolding block_comment
comment = refl

open_comment : block_comment (codes "/*/") ≡ faulty 3 (flaw 0 2 rule.OpenComment) []
unfolding block_comment
open_comment = refl

spliced : line_comment (codes "//a\\\nb") ≡ faulty 4 (flaw 3 1 rule.LeftOut) []
unfolding line_comment
spliced = refl

marker : hash true (codes "# 7 ' x\na") ≡ white 7
unfolding hash
marker = refl

directive : hash false (codes "# 7") ≡ faulty 1 (flaw 0 1 rule.Directive) []
unfolding hash
directive = refl

word : name (codes "while (") ≡ token 5 kind.Word
unfolding name name_with words words_left_out alternatives encoding_prefixes
word = refl

left_out : name (codes "goto x") ≡ broken 4 rule.LeftOut
unfolding name name_with words words_left_out alternatives encoding_prefixes
left_out = refl

prefixed : name (codes "u8\"a\"") ≡ broken 2 rule.LeftOut
unfolding name name_with words words_left_out alternatives encoding_prefixes
prefixed = refl

colons : punctuator (codes "<::a") ≡ token 1 kind.Punct
unfolding punctuator singles doubles triples doubles_left_out triples_left_out
colons = refl

shift : punctuator (codes ">>=b") ≡ token 3 kind.Punct
unfolding punctuator singles doubles triples doubles_left_out triples_left_out
shift = refl

digraph : punctuator (codes "<:::") ≡ broken 2 rule.LeftOut
unfolding punctuator singles doubles triples doubles_left_out triples_left_out
digraph = refl

run : number_size (codes "0x1'F;") ≡ 5
run = refl

value : value_of 16 (codes "1'F") ≡ 31
value = refl

separated : are_digits (codes "1''2") ≡ false
separated = refl

suffixes : suffix_of (codes "uLL") ≡ Some suffix.ULL
suffixes = refl

mixed : suffix_of (codes "lL") ≡ None
mixed = refl

escape : quoted (codes "'\\q'") ≡ faulty 4 (flaw 1 2 rule.BadEscape) []
unfolding quoted quoted_at bad_escape begins_escape byte_flaw escape_size escape_value is_bad_byte is_closed is_one_character is_whole literal_kind literal_size part_size part_value
escape = refl

two : quoted (codes "'ab'c") ≡ faulty 4 (flaw 0 4 rule.BadCharacter) (flaw 0 4 rule.LeftOut ∷ [])
unfolding quoted quoted_at bad_escape begins_escape byte_flaw escape_size escape_value is_bad_byte is_closed is_one_character is_whole literal_kind literal_size part_size part_value
two = refl

bytes : string_bytes (codes "\"a\\n\\x41\"") ≡ 97 ∷ 10 ∷ 65 ∷ []
unfolding begins_escape escape_size escape_value part_size part_value
bytes = refl
