-- Different rules have different tags: the rule is found again from its tag.
use Rattle.std.proofs.Common.{◌≡◌, ℕ, List, [], ◌∷◌, Option, Some, None, refl, ap, sym, ◌∙◌}
use Rattle.std.specs.Prelude.{if◌then◌else◌}
use Rattle.std.specs.Str.{bytes_eq}
use Rattle.cx_base.specs.declared.rule.Rule.{Rule}
use Rattle.cx_base.specs.declared.rule.Rule.TheVariants.{SourceTooLong, Directive, LeftOut, BadByte, OpenComment, BadNumber, NumberRange, BadCharacter, BadEscape, OpenString, LongName, Syntax, Nesting, UnknownName, NameKind, Redeclared, BadType, BadSpecifier, Incomplete, TypeTooLarge, SizeProfile, LeftOutForm, ThisContext, BadOperand, NotLvalue, ConstTarget, NoMatch, Ambiguous, DeletedCall, NoConversion, Narrowing, BadInit, NoInitializer, BadCast, AbstractObject, BadReturn, BadJump, BadCase, BadOverride, BadSpecial, BadMemberInit, EnumRange, BoundValue, ConstexprBody, NotLiteral, ConstinitStorage, AssertFailed, Overflow, DivideByZero, Quotient, ShiftCount, EnumCast, DownCast, NonConstexprCall, UndefinedFunction, ThisUse, NotUsable, UnboundReference, VirtualObject, Indeterminate, UnspecifiedCompare, VoidCast, Reinterpret, OutsideWrite, ForeignDelete, Throw, Leak, ResultIndeterminate, ResultPlace, PureVirtual, InactiveMember, OutOfLifetime, Dangling, NullIndirection, PastEnd, PointerRange, PointerDistance, ConstWrite, ArrayNewLength, DeleteForm, FlowOff, LimitDepth, LimitExprs, LimitTurns, LimitCells, LimitObjects}
use Rattle.cx_base.specs.Rules.{tag_of}

-- the first of these rules that has the tag
rule_in : List Rule → List ℕ → Option Rule
rule_in [] tag = None
rule_in (r ∷ rs) tag = if bytes_eq (tag_of r) tag then Some r else rule_in rs tag

all_rules : List Rule
all_rules = SourceTooLong ∷ Directive ∷ LeftOut ∷ BadByte ∷ OpenComment ∷ BadNumber ∷ NumberRange ∷ BadCharacter ∷ BadEscape ∷ OpenString ∷ LongName ∷ Syntax ∷ Nesting ∷ UnknownName ∷ NameKind ∷ Redeclared ∷ BadType ∷ BadSpecifier ∷ Incomplete ∷ TypeTooLarge ∷ SizeProfile ∷ LeftOutForm ∷ ThisContext ∷ BadOperand ∷ NotLvalue ∷ ConstTarget ∷ NoMatch ∷ Ambiguous ∷ DeletedCall ∷ NoConversion ∷ Narrowing ∷ BadInit ∷ NoInitializer ∷ BadCast ∷ AbstractObject ∷ BadReturn ∷ BadJump ∷ BadCase ∷ BadOverride ∷ BadSpecial ∷ BadMemberInit ∷ EnumRange ∷ BoundValue ∷ ConstexprBody ∷ NotLiteral ∷ ConstinitStorage ∷ AssertFailed ∷ Overflow ∷ DivideByZero ∷ Quotient ∷ ShiftCount ∷ EnumCast ∷ DownCast ∷ NonConstexprCall ∷ UndefinedFunction ∷ ThisUse ∷ NotUsable ∷ UnboundReference ∷ VirtualObject ∷ Indeterminate ∷ UnspecifiedCompare ∷ VoidCast ∷ Reinterpret ∷ OutsideWrite ∷ ForeignDelete ∷ Throw ∷ Leak ∷ ResultIndeterminate ∷ ResultPlace ∷ PureVirtual ∷ InactiveMember ∷ OutOfLifetime ∷ Dangling ∷ NullIndirection ∷ PastEnd ∷ PointerRange ∷ PointerDistance ∷ ConstWrite ∷ ArrayNewLength ∷ DeleteForm ∷ FlowOff ∷ LimitDepth ∷ LimitExprs ∷ LimitTurns ∷ LimitCells ∷ LimitObjects ∷ []

rule_with : List ℕ → Option Rule
rule_with tag = rule_in all_rules tag

found : (r : Rule) → rule_with (tag_of r) ≡ Some r
unfolding rule_with rule_in all_rules
found SourceTooLong = refl
found Directive = refl
found LeftOut = refl
found BadByte = refl
found OpenComment = refl
found BadNumber = refl
found NumberRange = refl
found BadCharacter = refl
found BadEscape = refl
found OpenString = refl
found LongName = refl
found Syntax = refl
found Nesting = refl
found UnknownName = refl
found NameKind = refl
found Redeclared = refl
found BadType = refl
found BadSpecifier = refl
found Incomplete = refl
found TypeTooLarge = refl
found SizeProfile = refl
found LeftOutForm = refl
found ThisContext = refl
found BadOperand = refl
found NotLvalue = refl
found ConstTarget = refl
found NoMatch = refl
found Ambiguous = refl
found DeletedCall = refl
found NoConversion = refl
found Narrowing = refl
found BadInit = refl
found NoInitializer = refl
found BadCast = refl
found AbstractObject = refl
found BadReturn = refl
found BadJump = refl
found BadCase = refl
found BadOverride = refl
found BadSpecial = refl
found BadMemberInit = refl
found EnumRange = refl
found BoundValue = refl
found ConstexprBody = refl
found NotLiteral = refl
found ConstinitStorage = refl
found AssertFailed = refl
found Overflow = refl
found DivideByZero = refl
found Quotient = refl
found ShiftCount = refl
found EnumCast = refl
found DownCast = refl
found NonConstexprCall = refl
found UndefinedFunction = refl
found ThisUse = refl
found NotUsable = refl
found UnboundReference = refl
found VirtualObject = refl
found Indeterminate = refl
found UnspecifiedCompare = refl
found VoidCast = refl
found Reinterpret = refl
found OutsideWrite = refl
found ForeignDelete = refl
found Throw = refl
found Leak = refl
found ResultIndeterminate = refl
found ResultPlace = refl
found PureVirtual = refl
found InactiveMember = refl
found OutOfLifetime = refl
found Dangling = refl
found NullIndirection = refl
found PastEnd = refl
found PointerRange = refl
found PointerDistance = refl
found ConstWrite = refl
found ArrayNewLength = refl
found DeleteForm = refl
found FlowOff = refl
found LimitDepth = refl
found LimitExprs = refl
found LimitTurns = refl
found LimitCells = refl
found LimitObjects = refl

some_inj : (a b : Rule) → Some a ≡ Some b → a ≡ b
some_inj a b e = cc

pub tags_differ : (a b : Rule) → tag_of a ≡ tag_of b → a ≡ b
tags_differ a b e = some_inj a b (sym (found a) ∙ ap rule_with e ∙ found b)
