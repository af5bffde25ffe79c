-- The names of types at small lists.
use Rattle.std.proofs.Common.{◌≡◌, ℕ, false, List, [], ◌∷◌, refl}
use Rattle.std.specs.Prelude.{codes}
use Rattle.cx_base.specs.declared.diag.Mark.{Mark}
use Rattle.cx_token_defs.specs.declared.Token.{Token}
use Rattle.cx_token_defs.specs.declared.TokenKind.{TokenKind}
use Rattle.cx_token_defs.specs.declared.TokenKind.TheVariants as kind
use Rattle.cx_type_names.specs.Groups.{behind_groups}
use Rattle.cx_type_names.specs.Names.{is_type_name, names_in, standard_names}
use Rattle.cx_type_names.specs.Roles.{role_of}

start : Mark
start = record { byte = 0; line = 1; col = 1 }

token : TokenKind → List ℕ → Token
token kind text = record { kind = kind; span = record { start = start; end = start }; text = text }

word : List ℕ → Token
word text = token kind.Word text

name : List ℕ → Token
name text = token kind.Ident text

mark : List ℕ → Token
mark text = token kind.Punct text

left : Token
left = mark (codes "[")

right : Token
right = mark (codes "]")

semicolon : Token
semicolon = mark (codes ";")

-- size_t;
library : names_in (name (codes "size_t") ∷ semicolon ∷ []) ≡ standard_names
unfolding token word name mark semicolon role_of
library = refl

-- struct a;
after_struct : names_in (word (codes "struct") ∷ name (codes "a") ∷ semicolon ∷ []) ≡ codes "a" ∷ standard_names
unfolding token word name mark semicolon role_of behind_groups
after_struct = refl

-- enum class a;
after_enum_class : names_in (word (codes "enum") ∷ word (codes "class") ∷ name (codes "a") ∷ semicolon ∷ []) ≡ codes "a" ∷ standard_names
unfolding token word name mark semicolon role_of behind_groups
after_enum_class = refl

-- struct [[ b ]] [[ ]] a;
groups_in_a_row : names_in (word (codes "struct") ∷ left ∷ left ∷ name (codes "b") ∷ right ∷ right ∷ left ∷ left ∷ right ∷ right ∷ name (codes "a") ∷ [])
    ≡ codes "a" ∷ standard_names
unfolding token word name mark left right role_of behind_groups
groups_in_a_row = refl

-- struct [[ ( ]] a;
broken_group : names_in (word (codes "struct") ∷ left ∷ left ∷ mark (codes "(") ∷ right ∷ right ∷ name (codes "a") ∷ []) ≡ standard_names
unfolding token word name mark left right role_of behind_groups
broken_group = refl

-- struct [[ b ] c ] a;
apart_closers : names_in (word (codes "struct") ∷ left ∷ left ∷ name (codes "b") ∷ right ∷ name (codes "c") ∷ right ∷ name (codes "a") ∷ []) ≡ standard_names
unfolding token word name mark left right role_of behind_groups
apart_closers = refl

-- struct [[ union b ]] a;
key_in_a_group : names_in (word (codes "struct") ∷ left ∷ left ∷ word (codes "union") ∷ name (codes "b") ∷ right ∷ right ∷ name (codes "a") ∷ [])
    ≡ codes "a" ∷ codes "b" ∷ standard_names
unfolding token word name mark left right role_of behind_groups
key_in_a_group = refl

-- struct a :: b
qualified : names_in (word (codes "struct") ∷ name (codes "a") ∷ mark (codes "::") ∷ name (codes "b") ∷ []) ≡ codes "a" ∷ standard_names
unfolding token word name mark role_of behind_groups
qualified = refl

-- using a [[ ]] = b;
alias : names_in (word (codes "using") ∷ name (codes "a") ∷ left ∷ left ∷ right ∷ right ∷ mark (codes "=") ∷ name (codes "b") ∷ semicolon ∷ [])
    ≡ codes "a" ∷ standard_names
unfolding token word name mark left right semicolon role_of behind_groups
alias = refl

-- using a :: b;
no_alias : names_in (word (codes "using") ∷ name (codes "a") ∷ mark (codes "::") ∷ name (codes "b") ∷ semicolon ∷ []) ≡ standard_names
unfolding token word name mark semicolon role_of behind_groups
no_alias = refl

-- typedef int a, b; c;
first_semicolon : names_in (word (codes "typedef") ∷ word (codes "int") ∷ name (codes "a") ∷ mark (codes ",") ∷ name (codes "b") ∷ semicolon ∷ name (codes "c") ∷ semicolon ∷ [])
    ≡ codes "b" ∷ standard_names
unfolding token word name mark semicolon role_of behind_groups
first_semicolon = refl

-- typedef ; a;
empty_typedef : names_in (word (codes "typedef") ∷ semicolon ∷ name (codes "a") ∷ semicolon ∷ []) ≡ standard_names
unfolding token word name mark semicolon role_of
empty_typedef = refl

-- typedef int a
no_semicolon : names_in (word (codes "typedef") ∷ word (codes "int") ∷ name (codes "a") ∷ []) ≡ standard_names
unfolding token word name mark role_of
no_semicolon = refl

-- struct a; asks for b
not_named : is_type_name (word (codes "struct") ∷ name (codes "a") ∷ name (codes "b") ∷ []) (codes "b") ≡ false
unfolding token word name mark role_of behind_groups
not_named = refl
