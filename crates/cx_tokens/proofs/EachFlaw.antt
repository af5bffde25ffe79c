-- The first flaw of a literal, from those of its kinds.
use Rattle.std.proofs.Common.{◌≡◌, ℕ, Bool, true, false, cond, List, [], ◌∷◌, ◌++◌, ◌-◌, Option, Some, None, refl}
use Rattle.std.specs.Option.{option_or, option_to_list}
use Rattle.cx_base.specs.declared.rule.Rule.{Rule}
use Rattle.cx_base.specs.declared.rule.Rule.TheVariants as rule
use Rattle.cx_token_defs.specs.declared.TokenKind.{TokenKind}
use Rattle.cx_tokens.specs.declared.shapes.Flaw.{Flaw}
use Rattle.cx_tokens.specs.declared.literals.Look.TheVariants as look
use Rattle.cx_tokens.specs.Bytes.{begins_name, byte_at}
use Rattle.cx_tokens.specs.Literals.{first_or, is_whole, literal_kind, literal_size, own_rule, quoted_at}
use Rattle.cx_tokens.specs.Scanning.{flaw_from}
use Rattle.cx_tokens.specs.Pieces.{token, flaw, unless_faulty}
use Rattle.cx_tokens.specs.Shapes.{either, own_flaw, shape_of, shape_with}

pub first_of_kinds : (escape : Option Flaw) (whole behind : Bool) (n : ℕ) (broken : Rule) (byte : Option Flaw) (k : TokenKind)
    → shape_of (unless_faulty (first_or escape (cond whole [] (flaw 0 n broken ∷ []) ++ cond behind (flaw 0 n rule.LeftOut ∷ []) []) ++ option_to_list byte) (token n k))
    ≡ shape_with (either (option_or escape (own_flaw whole behind n broken)) byte) (token n k)
first_of_kinds (Some f) whole behind n broken None k = refl
first_of_kinds (Some f) whole behind n broken (Some g) k = refl
first_of_kinds None true true n broken None k = refl
first_of_kinds None true true n broken (Some g) k = refl
first_of_kinds None true false n broken None k = refl
first_of_kinds None true false n broken (Some g) k = refl
first_of_kinds None false true n broken None k = refl
first_of_kinds None false true n broken (Some g) k = refl
first_of_kinds None false false n broken None k = refl
first_of_kinds None false false n broken (Some g) k = refl

pub quoted_is : (quote : ℕ) (body : List ℕ) → shape_of (quoted_at quote body)
    ≡ shape_with (either (option_or (flaw_from look.Escapes quote body body)
    (own_flaw (is_whole quote body) (begins_name (byte_at body (literal_size quote body - 1))) (literal_size quote body) (own_rule quote)))
    (flaw_from look.Bytes quote body body)) (token (literal_size quote body) (literal_kind quote body))
unfolding quoted_at
quoted_is quote body =
    first_of_kinds (flaw_from look.Escapes quote body body) (is_whole quote body) (begins_name (byte_at body (literal_size quote body - 1)))
    (literal_size quote body) (own_rule quote) (flaw_from look.Bytes quote body body) (literal_kind quote body)
