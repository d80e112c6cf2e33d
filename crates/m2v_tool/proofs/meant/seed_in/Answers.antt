use Rattle.std.proofs.Common.{ap, ◌∙◌, ℕ, Option, refl, arith}
use Rattle.std.specs.Prelude.{option_and_then, codes, unwrap_or}
use Rattle.std.specs.Str.Parse.{ParsesUnsigned, ExplainsUnsignedError, HasUnsignedDigitsIfOk}
use Rattle.clap.proofs.WalkLemmas.{one_text-rows}
use Rattle.clap.specs.Matches.{found_of}
use Rattle.m2v_tool.specs.Simple.{unsigned}
use Rattle.m2v_tool.specs.Making.{seed_in}
use Rattle.m2v_tool.proofs.NumberLaws.{number_read}
use Rattle.m2v_tool.proofs.meant.seed_in.Goals as goal

pub returns : goal.returns
unfolding seed_in
returns c =
    c.unwrap_or.ensures
    ∙ ap (λ (o : Option ℕ). unwrap_or o 0)
    (number_read 64 18446744073709551615 refl (omega arith) _ (λ bs r. ParsesUnsigned 64 10 bs r × ExplainsUnsignedError 10 bs r × HasUnsignedDigitsIfOk bs r) (λ u x g. g.0) _
    c.get_one.result c.get_one.ensures.none c.get_one.ensures.value
    ∙ ap (option_and_then (unsigned 18446744073709551615)) (one_text-rows (found_of c.args.matches.now) (codes "SEED")))
