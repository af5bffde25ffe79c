-- What is read of the matches.
use Rattle.std.proofs.Common.{◌≡◌, ℕ, List, true, false, Option, Some, None, refl, Result, Ok, Err, arith, unwrap_or, Bool}
use Rattle.std.specs.Str.Parse.{ParsesUnsigned}
use Rattle.clap.specs.Words.{ReadsOne, Text}
use Rattle.clap.specs.ValueTests.{accepts}
use Rattle.clap.specs.declared.builder.value_parser.ValueParser.TheVariants as parser
use Rattle.clap.proofs.ValueTestLemmas.{accepts-Accepts, Accepts-accepts}
use Rattle.cx_words.specs.Asked.{number_of}

module _ {E : Type 0} (G : List ℕ → Result ℕ E → Type 0) (only : (u : List ℕ) (x : Result ℕ E) → G u x → ParsesUnsigned 32 10 u x) where
  read_some : (t : Text) (r : Option ℕ) → ReadsOne G t r → unwrap_or r 0 ≡ number_of (Some t)
  read_some t (Some v) read =
      let parsed = only t (Ok v) read in
      let yes : accepts false (parser.Unsigned 0 4294967295) t ≡ true = Accepts-accepts false (parser.Unsigned 0 4294967295) t (parsed.0.0, omega arith, omega arith, omega arith) in
      rw yes parsed.1
  read_some t None read =
      let refused = only t (Err read.0) read.1 in
      go (accepts false (parser.Unsigned 0 4294967295) t) refl refused
    where
      go : (b : Bool) → accepts false (parser.Unsigned 0 4294967295) t ≡ b → ParsesUnsigned {E = E} 32 10 t (Err read.0) → 0 ≡ number_of (Some t)
      go true read_so refused =
          let fits = accepts-Accepts false (parser.Unsigned 0 4294967295) t read_so in
          absurd (refused (fits.0, omega arith))
      go false not_so refused = rw not_so refl

  -- the number that was read
  pub read_number : (o : Option Text) (r : Option ℕ) → (o ≡ None → r ≡ None) → ((t : Text) → o ≡ Some t → ReadsOne G t r)
      → unwrap_or r 0 ≡ number_of o
  read_number None r none value = rw (none refl) refl
  read_number (Some t) r none value = read_some t r (value t refl)
