-- What `clap` makes of the words behind a command's name: for each command a simple command of `clap` reads them, without
-- help, version and subcommands.
use Rattle.std.specs.Prelude.{ℕ, Bool, true, false, List, [], ◌∷◌, Option, Some, None, pos, codes, option_and_then, is_some, unwrap_or, if◌then◌else◌}
use Rattle.std.specs.Str.Parse.{digits_value, without_leading_plus}
use Rattle.std.specs.Str.{bytes_eq}
use Rattle.clap.specs.ValueTests.{accepts}
use Rattle.clap.specs.Walk.{Row, Rule, Text, first_of, is_empty, one_of}
use Rattle.clap.specs.Simple.{App, matches_of, new_rule, new_shape, with_rule}
use Rattle.clap.specs.Faults.{fault_of}
use Rattle.clap.specs.declared.builder.action.ArgAction.TheVariants.{SetTrue}
use Rattle.clap.specs.declared.builder.value_parser.ValueParser.{ValueParser}
use Rattle.clap.specs.declared.builder.value_parser.ValueParser.TheVariants as parsers

-- a simple command with these arguments
abbrev pub simple : Text → List Rule → App
simple name rules = record {
  top = record (new_shape name) { rules = rules; no_binary_name = true; disable_help_flag = true };
  subs = [];
}

-- the same with more arguments
abbrev pub with_rules : App → List Rule → App
with_rules a [] = a
with_rules a (rule ∷ rules) = with_rules (with_rule a rule) rules

-- numbers that fit 32 bits
abbrev pub u32_parser : ValueParser
u32_parser = parsers.Signed (pos 0) (pos 4294967295)

-- a required word that is a number
abbrev pub number_word : Text → Rule
number_word id = record (new_rule id) { parser = Some u32_parser; required = true }

-- options behind `--`: a number that may be given, one that is required, a text, and a flag
abbrev pub number_option : Text → Rule
number_option id = record (new_rule id) { long = Some id; parser = Some u32_parser }

abbrev pub required_option : Text → Rule
required_option id = record (number_option id) { required = true }

abbrev pub text_option : Text → Rule
text_option id = record (new_rule id) { long = Some id }

abbrev pub flag_option : Text → Rule
flag_option id = record (new_rule id) { long = Some id; action = Some SetTrue }

-- what `clap` finds in the words, where it takes them
unfoldable pub taken : App → List Text → Option (List Row)
taken a words = if is_empty (fault_of a words) then Some (matches_of a words) else None

-- the number that a text writes, a plus before it or not, up to a greatest one
unfoldable pub unsigned : ℕ → Text → Option ℕ
unsigned most text =
    if accepts false (parsers.Unsigned 0 most) text
    then Some (digits_value 10 (without_leading_plus text)) else None

-- the number of 32 bits that was given under this id
unfoldable pub number_in : Text → List Row → Option ℕ
number_in id rows = option_and_then (unsigned 4294967295) (one_of id rows)

-- the number of a word that is required: `clap` takes no words without it
unfoldable pub required : Text → List Row → ℕ
required id rows = unwrap_or (number_in id rows) 0

-- the number that was given, and where none was this one
unfoldable pub number_or : Text → ℕ → List Row → ℕ
number_or id n rows = unwrap_or (number_in id rows) n

-- whether a flag was given
unfoldable pub flag : Text → List Row → Bool
flag id rows = bytes_eq (unwrap_or (first_of id rows) (codes "false")) (codes "true")

-- a command that has no words behind its name takes these
unfoldable pub stands_alone : Text → List Text → Bool
stands_alone name words = is_some (taken (simple name []) words)
