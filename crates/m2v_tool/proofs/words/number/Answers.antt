use Rattle.std.proofs.Common.{ap, ◌∙◌, refl, arith}
use Rattle.std.specs.Prelude.{option_and_then}
use Rattle.std.specs.Str.Parse.{ParsesUnsigned, ExplainsUnsignedError, HasUnsignedDigitsIfOk}
use Rattle.clap.proofs.WalkLemmas.{one_text-rows}
use Rattle.clap.specs.Matches.{found_of}
use Rattle.m2v_tool.specs.Simple.{number_in, unsigned}
use Rattle.m2v_tool.proofs.NumberLaws.{number_read}
use Rattle.m2v_tool.proofs.words.number.Goals as goal

pub returns : goal.returns
unfolding number_in
returns c =
    number_read 32 4294967295 refl (omega arith) _ (λ bs r. ParsesUnsigned 32 10 bs r × ExplainsUnsignedError 10 bs r × HasUnsignedDigitsIfOk bs r) (λ u x g. g.0) _
    c.get_one.result c.get_one.ensures.none c.get_one.ensures.value
    ∙ ap (option_and_then (unsigned 4294967295)) (one_text-rows (found_of c.args.matches.now) c.args.id.now)
