use Rattle.std.proofs.Common.{refl}
use Rattle.m2v_mend.specs.Gathering.{finished}
use Rattle.m2v_mend.proofs.FoldLaws.{folded_ended}
use Rattle.m2v_mend.proofs.folding.Folding.end_stretch.Goals as goal

pub returns-clause-told : goal.returns-clause-told
returns-clause-told c written listed g place f le =
    let e = c.in_ok-end_span.ensures in
    let t = e.ended written listed g f in
    folded_ended written listed g place c.args.self.now _ f le (record {
      made = c.in_ok-end_strand.ensures.told written listed (finished g).made t.made;
      groups = t.groups;
      pictures = t.pictures;
    }) e.heads.heads e.parts refl
