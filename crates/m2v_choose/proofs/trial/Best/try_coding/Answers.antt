use Rattle.std.proofs.Common.{ℕ, ◌*◌, ◌<◌, false, true, [], ◌∷◌, refl, arith}
use Rattle.std.specs.Prelude.{slice_index_or, unsigned_abs}
use Rattle.m2v_idct.specs.Block.{nth}
use Rattle.m2v_macroblock.specs.Macroblocks.{kind_for}
use Rattle.m2v_choose.specs.Trials.{quantised_by, transforms_of}
use Rattle.m2v_choose.proofs.Empties.{levels_same, none_reached}
use Rattle.m2v_choose.proofs.Coded.{coding_none}
use Rattle.m2v_choose.proofs.trial.Best.try_coding.Goals as goal

pub returns-then-not-reaches : goal.returns-then-not-reaches
returns-then-not-reaches c = record {
  tried = λ r p same samples made rated.
      let t = c.args.task.now in
      let q = c.args.q in
      let ts = c.args.transforms.now.at.now in
      let luma = kind_for t.context.now false true q in
      let chroma = kind_for t.context.now false false q in
      let low : (b k : ℕ) → b < 6 → k < 64 → unsigned_abs (nth (slice_index_or ts b []) k) < 2 * q =
      λ b k lt small. omega (arith, c.requires.far.at b k lt small, c.reaches.ensures c.if-not-reaches.true b lt, c.from.ensures) in
      let kinds = luma ∷ chroma ∷ [] in
      let whole = transforms_of t.source.now.at c.args.plain.now.prediction.now.at c.args.dct_field in
      coding_none r t p c.args.plain.now.bare.now same c.args.plain.now.prediction.now.at whole (quantised_by ts luma chroma) q c.args.dct_field kinds
      samples refl refl (levels_same t.context.now q c.requires.task.asked.own kinds refl ts whole made) (none_reached t.context.now q c.requires.task.asked.own ts low) c.args.self.now rated;
}
