-- What is read of what `clap` found in the words.
use Rattle.std.proofs.Common.{◌≡◌, ℕ, ◌+◌, ◌^◌, ◌<◌, Bool, true, false, List, Option, Some, None, Result, Ok, Err, refl, ap, sym, ◌∙◌, arith}
use Rattle.std.specs.Prelude.{option_and_then, option_map}
use Rattle.std.specs.Str.Parse.{ParsesUnsigned}
use Rattle.clap.specs.Matches.{ReadsOne}
use Rattle.clap.specs.ValueTests.{accepts}
use Rattle.clap.specs.Walk.{Row, Text}
use Rattle.clap.specs.Simple.{App}
use Rattle.clap.specs.declared.builder.value_parser.ValueParser.TheVariants as parsers
use Rattle.clap.proofs.ValueTestLemmas.{accepts-Accepts, Accepts-accepts}
use Rattle.m2v_tool.specs.Simple.{taken, unsigned}

module _ (width most : ℕ) (fits : 2 ^ width ≡ most + 1) (small : most < 2 ^ 64) (E : Type 0) (G : Text → Result ℕ E → Type 0) (only : (u : Text) (x : Result ℕ E) → G u x → ParsesUnsigned width 10 u x) where
  text_read : (t : Text) (r : Option ℕ) → ReadsOne G t r → r ≡ unsigned most t
  unfolding unsigned
  text_read t (Some v) read =
      let p = only t (Ok v) read in
      rw (Accepts-accepts false (parsers.Unsigned 0 most) t (p.0.0, omega (arith, p.0.1, fits, small), omega arith, omega (arith, p.0.1, fits))) (ap Some p.1)
  text_read t None read = by_case (accepts false (parsers.Unsigned 0 most) t) refl
    where
      by_case : (b : Bool) → accepts false (parsers.Unsigned 0 most) t ≡ b → None ≡ unsigned most t
      by_case true e =
          let passes = accepts-Accepts false (parsers.Unsigned 0 most) t e in
          absurd (only t (Err read.0) read.1 (passes.0, omega (arith, passes.3, fits)))
      by_case false e = rw e refl

  pub number_read : (o : Option Text) (r : Option ℕ) → (o ≡ None → r ≡ None) → ((t : Text) → o ≡ Some t → ReadsOne G t r) → r ≡ option_and_then (unsigned most) o
  number_read None r none value = none refl
  number_read (Some t) r none value = text_read t r (value t refl)

-- what was found in words that a command took, and in words that it didn't take
pub found_some : {M : Type 0} (rows : M → List Row) (a b : App) (words : List Text) (found : Option M) (m : M)
    → option_map rows found ≡ taken a words → a ≡ b → found ≡ Some m → Some (rows m) ≡ taken b words
found_some rows a b words found m is same some = sym (ap (option_map rows) some) ∙ is ∙ ap (λ (x : App). taken x words) same

pub found_none : {M : Type 0} (rows : M → List Row) (a b : App) (words : List Text) (found : Option M)
    → option_map rows found ≡ taken a words → a ≡ b → found ≡ None → None ≡ taken b words
found_none rows a b words found is same none = sym (ap (option_map rows) none) ∙ is ∙ ap (λ (x : App). taken x words) same
