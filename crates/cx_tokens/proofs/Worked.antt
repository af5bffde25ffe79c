-- Whole texts and their tokens, worked out by the definitions.
use Rattle.std.proofs.Common.{◌≡◌, ℕ, zero, suc, ◌<◌, ◌≤◌, ℤ, pos, negsuc, Option, Some, None, List, [], ◌∷◌, length, map, drop, refl, arith, length-drop}
use Rattle.std.specs.Prelude.{◌≢◌, codes}
use Rattle.cx_base.specs.declared.diag.Diag.{Diag}
use Rattle.cx_base.specs.declared.int_type.IntType.{IntType}
use Rattle.cx_base.specs.declared.int_type.IntType.TheVariants as type
use Rattle.cx_base.specs.declared.rule.Rule.{Rule}
use Rattle.cx_base.specs.declared.rule.Rule.TheVariants as rule
use Rattle.cx_token_defs.specs.declared.Token.{Token}
use Rattle.cx_token_defs.specs.declared.TokenKind.{TokenKind}
use Rattle.cx_token_defs.specs.declared.TokenKind.TheVariants as kind
use Rattle.cx_tokens.specs.Cut.{IsCut, Piece, end_token, found_at, opens_line, piece_at, tokens_from}
use Rattle.cx_tokens.specs.Faults.{faults_from, first_of}
use Rattle.cx_tokens.specs.Literals.{bad_escape, begins_escape, byte_flaw, escape_size, escape_value, is_bad_byte, is_closed, is_one_character, is_whole, literal_kind, literal_size, part_size, part_value, quoted, quoted_at}
use Rattle.cx_tokens.specs.Names.{alternatives, encoding_prefixes, name, name_with, words, words_left_out}
use Rattle.cx_tokens.specs.Numbers.{number}
use Rattle.cx_tokens.specs.Punctuators.{doubles, doubles_left_out, punctuator, singles, triples, triples_left_out}
use Rattle.cx_tokens.specs.Space.{block_comment, hash, line_comment}
use Rattle.cx_tokens.proofs.Cuts.{piece_some}
use Rattle.cx_ints.specs.Conversions.{rank}
use Rattle.cx_ints.specs.Literals.{has_u, is_listed, literal_type, literal_types, lowest}
use Rattle.cx_ints.specs.Ranges.{fits, greatest, is_signed, least, width}

-- the pieces of a text of no more than so many bytes
abbrev pub pieces_within : ℕ → List Piece → List ℕ → List Piece
pieces_within n before [] = []
pieces_within zero before (b ∷ bytes) = []
pieces_within (suc n) before (b ∷ bytes) =
    piece_at (opens_line before) (b ∷ bytes)
    ∷ pieces_within n (piece_at (opens_line before) (b ∷ bytes) ∷ before) (drop (length (piece_at (opens_line before) (b ∷ bytes)).bytes) (b ∷ bytes))

abbrev pub pieces_of : List ℕ → List Piece
pieces_of bytes = pieces_within (length bytes) [] bytes

some_bytes : (b : ℕ) (bytes : List ℕ) → b ∷ bytes ≢ []
some_bytes b bytes e = cc

within_cut : (n : ℕ) (before : List Piece) (bytes : List ℕ) → length bytes ≤ n → IsCut before bytes (pieces_within n before bytes)
within_cut zero before [] h = refl
within_cut (suc n) before [] h = refl
within_cut zero before (b ∷ bytes) h = absurd (omega arith)
within_cut (suc n) before (b ∷ bytes) h =
    let piece = piece_at (opens_line before) (b ∷ bytes) in
    let some : 0 < length piece.bytes = piece_some (opens_line before) (b ∷ bytes) (omega arith) in
    (some_bytes b bytes, refl, within_cut n (piece ∷ before) (drop (length piece.bytes) (b ∷ bytes)) (omega (arith, length-drop (length piece.bytes) (b ∷ bytes))))

-- They are the text's cut.
pub cut_is : (bytes : List ℕ) → IsCut [] bytes (pieces_of bytes)
cut_is bytes = within_cut (length bytes) [] bytes (omega arith)

abbrev tokens_in : List ℕ → List Token
tokens_in bytes = tokens_from [] (pieces_of bytes)

-- a token's kind and text
abbrev Shown : Type 0
Shown = TokenKind × List ℕ

abbrev shown : Token → Shown
shown t = (t.kind, t.text)

-- the line and column where a token begins, and its text
abbrev Placed : Type 0
Placed = ℕ × ℕ × List ℕ

abbrev placed : Token → Placed
placed t = (t.span.start.line, t.span.start.col, t.text)

abbrev tokens_shown : List ℕ → List Shown
tokens_shown bytes = map shown (tokens_in bytes)

abbrev tokens_placed : List ℕ → List Placed
tokens_placed bytes = map placed (tokens_in bytes)

abbrev word : List ℕ → Shown
word text = (kind.Word, text)

abbrev ident : List ℕ → Shown
ident text = (kind.Ident, text)

abbrev operator : List ℕ → Shown
operator text = (kind.Punct, text)

abbrev literal : List ℕ → IntType → ℕ → Shown
literal text ty value = (kind.Number (record { ty = ty; value = pos value }), text)

abbrev character : List ℕ → ℤ → Shown
character text value = (kind.Char value, text)

abbrev string : List ℕ → Shown
string bytes = (kind.Str, bytes)

abbrev end : Shown
end = (kind.End, [])

-- nothing but the end
nothing : tokens_in [] ≡ end_token (record { byte = 0; line = 1; col = 1 }) ∷ []
unfolding found_at name name_with words words_left_out alternatives encoding_prefixes number quoted quoted_at bad_escape begins_escape byte_flaw escape_size escape_value is_bad_byte is_closed is_one_character is_whole literal_kind literal_size part_size part_value line_comment block_comment hash punctuator singles doubles triples doubles_left_out triples_left_out literal_type literal_types is_listed has_u lowest rank fits least greatest is_signed width
nothing = refl

-- a sign goes on behind `e`, but not behind the `e` that a quote ties to the digits
signs : map tokens_shown (codes "0x1'e+5" ∷ codes "1+e-2" ∷ [])
    ≡ (literal (codes "0x1'e") type.Int 30 ∷ operator (codes "+") ∷ literal (codes "5") type.Int 5 ∷ end ∷ [])
    ∷ (literal (codes "1") type.Int 1 ∷ operator (codes "+") ∷ ident (codes "e") ∷ operator (codes "-") ∷ literal (codes "2") type.Int 2 ∷ end ∷ []) ∷ []
unfolding found_at name name_with words words_left_out alternatives encoding_prefixes number quoted quoted_at bad_escape begins_escape byte_flaw escape_size escape_value is_bad_byte is_closed is_one_character is_whole literal_kind literal_size part_size part_value line_comment block_comment hash punctuator singles doubles triples doubles_left_out triples_left_out literal_type literal_types is_listed has_u lowest rank fits least greatest is_signed width
signs = refl

-- a tab and a carriage return take one column, a line feed begins a line
places : map tokens_placed (codes "\ta\n b" ∷ codes "a\r\nb\r" ∷ codes "a/*\n\n*/b//c\nd" ∷ codes "# 7 \"x\"\n a" ∷ [])
    ≡ ((1, 2, codes "a") ∷ (2, 2, codes "b") ∷ (2, 3, []) ∷ [])
    ∷ ((1, 1, codes "a") ∷ (2, 1, codes "b") ∷ (2, 3, []) ∷ [])
    ∷ ((1, 1, codes "a") ∷ (3, 3, codes "b") ∷ (4, 1, codes "d") ∷ (4, 2, []) ∷ [])
    ∷ ((2, 2, codes "a") ∷ (2, 3, []) ∷ []) ∷ []
unfolding found_at name name_with words words_left_out alternatives encoding_prefixes number quoted quoted_at bad_escape begins_escape byte_flaw escape_size escape_value is_bad_byte is_closed is_one_character is_whole literal_kind literal_size part_size part_value line_comment block_comment hash punctuator singles doubles triples doubles_left_out triples_left_out literal_type literal_types is_listed has_u lowest rank fits least greatest is_signed width
places = refl

-- the text of an operator that a word spells is the operator
words_and_operators : map tokens_shown (codes "a and bitor" ∷ codes "compl not_eq andy" ∷ codes "while While if2" ∷ codes "u8 \"\"" ∷ [])
    ≡ (ident (codes "a") ∷ operator (codes "&&") ∷ operator (codes "|") ∷ end ∷ [])
    ∷ (operator (codes "~") ∷ operator (codes "!=") ∷ ident (codes "andy") ∷ end ∷ [])
    ∷ (word (codes "while") ∷ ident (codes "While") ∷ ident (codes "if2") ∷ end ∷ [])
    ∷ (ident (codes "u8") ∷ string [] ∷ end ∷ []) ∷ []
unfolding found_at name name_with words words_left_out alternatives encoding_prefixes number quoted quoted_at bad_escape begins_escape byte_flaw escape_size escape_value is_bad_byte is_closed is_one_character is_whole literal_kind literal_size part_size part_value line_comment block_comment hash punctuator singles doubles triples doubles_left_out triples_left_out literal_type literal_types is_listed has_u lowest rank fits least greatest is_signed width
words_and_operators = refl

-- the longest operator stands first
longest : map tokens_shown (codes ">>=>>>" ∷ codes "+++--->" ∷ codes "<::b<<::" ∷ codes "a..b:::" ∷ [])
    ≡ (operator (codes ">>=") ∷ operator (codes ">>") ∷ operator (codes ">") ∷ end ∷ [])
    ∷ (operator (codes "++") ∷ operator (codes "+") ∷ operator (codes "--") ∷ operator (codes "->") ∷ end ∷ [])
    ∷ (operator (codes "<") ∷ operator (codes "::") ∷ ident (codes "b") ∷ operator (codes "<<") ∷ operator (codes "::") ∷ end ∷ [])
    ∷ (ident (codes "a") ∷ operator (codes ".") ∷ operator (codes ".") ∷ ident (codes "b") ∷ operator (codes "::") ∷ operator (codes ":") ∷ end ∷ []) ∷ []
unfolding found_at name name_with words words_left_out alternatives encoding_prefixes number quoted quoted_at bad_escape begins_escape byte_flaw escape_size escape_value is_bad_byte is_closed is_one_character is_whole literal_kind literal_size part_size part_value line_comment block_comment hash punctuator singles doubles triples doubles_left_out triples_left_out literal_type literal_types is_listed has_u lowest rank fits least greatest is_signed width
longest = refl

-- the type is the first of the list that has the value
numbers : map tokens_shown (codes "010 0B1'01" ∷ codes "2147483648" ∷ codes "0x80000000" ∷ codes "4294967296u" ∷ codes "1Lu 1llU" ∷ codes "0x8000000000000000ll" ∷ [])
    ≡ (literal (codes "010") type.Int 8 ∷ literal (codes "0B1'01") type.Int 5 ∷ end ∷ [])
    ∷ (literal (codes "2147483648") type.Long 2147483648 ∷ end ∷ [])
    ∷ (literal (codes "0x80000000") type.UInt 2147483648 ∷ end ∷ [])
    ∷ (literal (codes "4294967296u") type.ULong 4294967296 ∷ end ∷ [])
    ∷ (literal (codes "1Lu") type.ULong 1 ∷ literal (codes "1llU") type.ULongLong 1 ∷ end ∷ [])
    ∷ (literal (codes "0x8000000000000000ll") type.ULongLong 9223372036854775808 ∷ end ∷ []) ∷ []
unfolding found_at name name_with words words_left_out alternatives encoding_prefixes number quoted quoted_at bad_escape begins_escape byte_flaw escape_size escape_value is_bad_byte is_closed is_one_character is_whole literal_kind literal_size part_size part_value line_comment block_comment hash punctuator singles doubles triples doubles_left_out triples_left_out literal_type literal_types is_listed has_u lowest rank fits least greatest is_signed width
numbers = refl

-- an escape has its value, and a value above 127 is a negative char
characters : map tokens_shown (codes "'a' '\\''" ∷ codes "'\\n' '\\a'" ∷ codes "'\\101' '\\377'" ∷ codes "'\\x41' '\\x80'" ∷ [])
    ≡ (character (codes "'a'") (pos 97) ∷ character (codes "'\\''") (pos 39) ∷ end ∷ [])
    ∷ (character (codes "'\\n'") (pos 10) ∷ character (codes "'\\a'") (pos 7) ∷ end ∷ [])
    ∷ (character (codes "'\\101'") (pos 65) ∷ character (codes "'\\377'") (negsuc 0) ∷ end ∷ [])
    ∷ (character (codes "'\\x41'") (pos 65) ∷ character (codes "'\\x80'") (negsuc 127) ∷ end ∷ []) ∷ []
unfolding found_at name name_with words words_left_out alternatives encoding_prefixes number quoted quoted_at bad_escape begins_escape byte_flaw escape_size escape_value is_bad_byte is_closed is_one_character is_whole literal_kind literal_size part_size part_value line_comment block_comment hash punctuator singles doubles triples doubles_left_out triples_left_out literal_type literal_types is_listed has_u lowest rank fits least greatest is_signed width
characters = refl

-- a string has the bytes of its escapes, and its own from 0x80 on
strings : map tokens_shown (codes "\"\"\"a\"1" ∷ codes "\"\\n\\x41g\\1234\\\"'\"" ∷ (34 ∷ 9 ∷ 128 ∷ 255 ∷ 34 ∷ []) ∷ codes "\"/*\"" ∷ [])
    ≡ (string [] ∷ string (97 ∷ []) ∷ literal (codes "1") type.Int 1 ∷ end ∷ [])
    ∷ (string (10 ∷ 65 ∷ 103 ∷ 83 ∷ 52 ∷ 34 ∷ 39 ∷ []) ∷ end ∷ [])
    ∷ (string (9 ∷ 128 ∷ 255 ∷ []) ∷ end ∷ [])
    ∷ (string (47 ∷ 42 ∷ []) ∷ end ∷ []) ∷ []
unfolding found_at name name_with words words_left_out alternatives encoding_prefixes number quoted quoted_at bad_escape begins_escape byte_flaw escape_size escape_value is_bad_byte is_closed is_one_character is_whole literal_kind literal_size part_size part_value line_comment block_comment hash punctuator singles doubles triples doubles_left_out triples_left_out literal_type literal_types is_listed has_u lowest rank fits least greatest is_signed width
strings = refl

-- comments don't nest, and a marker's line is white space
white_space : map tokens_shown (codes "/**/a/*/ */b" ∷ codes "/* /* */ a */" ∷ codes "# 1 ' \\\n#pragma x\n  #line 3 /*\nb" ∷ codes "/* c */ # 1 \"\na" ∷ codes "/*\n*/\n# 1" ∷ [])
    ≡ (ident (codes "a") ∷ ident (codes "b") ∷ end ∷ [])
    ∷ (ident (codes "a") ∷ operator (codes "*") ∷ operator (codes "/") ∷ end ∷ [])
    ∷ (ident (codes "b") ∷ end ∷ [])
    ∷ (ident (codes "a") ∷ end ∷ [])
    ∷ (end ∷ []) ∷ []
unfolding found_at name name_with words words_left_out alternatives encoding_prefixes number quoted quoted_at bad_escape begins_escape byte_flaw escape_size escape_value is_bad_byte is_closed is_one_character is_whole literal_kind literal_size part_size part_value line_comment block_comment hash punctuator singles doubles triples doubles_left_out triples_left_out literal_type literal_types is_listed has_u lowest rank fits least greatest is_signed width
white_space = refl

-- the rule that a text breaks first, with the bytes between which it does
abbrev Broken : Type 0
Broken = Option (Rule × ℕ × ℕ)

abbrev broken_shown : Option Diag → Broken
broken_shown None = None
broken_shown (Some d) = Some (d.rule, d.span.start.byte, d.span.end.byte)

abbrev fault_shown : List ℕ → Broken
fault_shown bytes = broken_shown (first_of (faults_from [] (pieces_of bytes)))

-- an open comment breaks a rule at its first two bytes; a letter behind a literal is left out, unless the literal breaks a rule of its own
faults : map fault_shown (codes "a /* x" ∷ codes "'a'b" ∷ codes "'ab'c" ∷ codes "\"\\q\"x" ∷ codes "@ 08" ∷ codes "a # 1" ∷ [])
    ≡ Some (rule.OpenComment, 2, 4) ∷ Some (rule.LeftOut, 0, 3) ∷ Some (rule.BadCharacter, 0, 4) ∷ Some (rule.BadEscape, 1, 3)
    ∷ Some (rule.BadByte, 0, 1) ∷ Some (rule.Directive, 2, 3) ∷ []
unfolding found_at name name_with words words_left_out alternatives encoding_prefixes number quoted quoted_at bad_escape begins_escape byte_flaw escape_size escape_value is_bad_byte is_closed is_one_character is_whole literal_kind literal_size part_size part_value line_comment block_comment hash punctuator singles doubles triples doubles_left_out triples_left_out literal_type literal_types is_listed has_u lowest rank fits least greatest is_signed width
faults = refl
