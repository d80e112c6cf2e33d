use Rattle.std.proofs.Common.{refl, ap, is_some}
use Rattle.m2v_tool.specs.Commands.{Comes}
use Rattle.m2v_tool.proofs.WordLaws.{means_of}
use Rattle.m2v_tool.proofs.top.carried_out.Goals as goal

pub returns-in-Ok-Some-Flat-clause-comes : goal.returns-in-Ok-Some-Flat-clause-comes
unfolding Comes
returns-in-Ok-Some-Flat-clause-comes g c =
    let read = c.in-Ok-Some-Flat in
    (_, means_of _ _ _ _ read.field-0-is read.field-0-0-is read.ensures.found, c.coded.ensures.comes, refl)

pub returns-in-Ok-Some-Decode-clause-comes : goal.returns-in-Ok-Some-Decode-clause-comes
unfolding Comes
returns-in-Ok-Some-Decode-clause-comes g c =
    let read = c.in-Ok-Some-Decode in
    (_, means_of _ _ _ _ read.field-0-is read.field-0-0-is read.ensures.found, c.decoded.ensures.comes, refl)

pub returns-in-Ok-None-clause-comes : goal.returns-in-Ok-None-clause-comes
unfolding Comes
returns-in-Ok-None-clause-comes g c = (c.in-Ok-None.ensures.none (ap is_some c.in-Ok-None.field-0-is), (refl, refl, refl))

pub returns-in-Err-clause-comes : goal.returns-in-Err-clause-comes
unfolding Comes
returns-in-Err-clause-comes g c = (refl, refl, refl)

pub returns-in-Ok-Some-Check-clause-comes : goal.returns-in-Ok-Some-Check-clause-comes
unfolding Comes
returns-in-Ok-Some-Check-clause-comes g c =
    let read = c.in-Ok-Some-Check in
    (means_of _ _ _ _ read.field-0-is read.field-0-0-is read.ensures.found, c.judged.ensures.comes, refl, refl)

pub returns-in-Ok-Some-Encode-clause-comes : goal.returns-in-Ok-Some-Encode-clause-comes
unfolding Comes
returns-in-Ok-Some-Encode-clause-comes g c =
    let read = c.in-Ok-Some-Encode in
    (_, means_of _ _ _ _ read.field-0-is read.field-0-0-is read.ensures.found, c.encoded.ensures.comes)

pub returns-in-Ok-Some-Make-clause-comes : goal.returns-in-Ok-Some-Make-clause-comes
unfolding Comes
returns-in-Ok-Some-Make-clause-comes g c =
    let read = c.in-Ok-Some-Make in
    (_, means_of _ _ _ _ read.field-0-is read.field-0-0-is read.ensures.found, c.made.ensures.comes, refl, refl)

pub returns-in-Ok-Some-Pack-clause-comes : goal.returns-in-Ok-Some-Pack-clause-comes
unfolding Comes
returns-in-Ok-Some-Pack-clause-comes g c =
    let read = c.in-Ok-Some-Pack in
    (_, means_of _ _ _ _ read.field-0-is read.field-0-0-is read.ensures.found, c.packed_frames.ensures.comes, refl)

pub returns-in-Ok-Some-Unpack-clause-comes : goal.returns-in-Ok-Some-Unpack-clause-comes
unfolding Comes
returns-in-Ok-Some-Unpack-clause-comes g c =
    let read = c.in-Ok-Some-Unpack in
    (means_of _ _ _ _ read.field-0-is read.field-0-0-is read.ensures.found, c.unpacked.ensures.comes, refl)

pub returns-in-Ok-Some-Cut-clause-comes : goal.returns-in-Ok-Some-Cut-clause-comes
unfolding Comes
returns-in-Ok-Some-Cut-clause-comes g c =
    let read = c.in-Ok-Some-Cut in
    (_, means_of _ _ _ _ read.field-0-is read.field-0-0-is read.ensures.found, c.cut_out.ensures.comes, refl)

pub returns-in-Ok-Some-EncodeY4m-clause-comes : goal.returns-in-Ok-Some-EncodeY4m-clause-comes
unfolding Comes
returns-in-Ok-Some-EncodeY4m-clause-comes g c =
    let read = c.in-Ok-Some-EncodeY4m in
    (_, means_of _ _ _ _ read.field-0-is read.field-0-0-is read.ensures.found, c.encoded_text.ensures.comes)

pub returns-in-Ok-Some-Audit-clause-comes : goal.returns-in-Ok-Some-Audit-clause-comes
unfolding Comes
returns-in-Ok-Some-Audit-clause-comes g c =
    let read = c.in-Ok-Some-Audit in
    (_, means_of _ _ _ _ read.field-0-is read.field-0-0-is read.ensures.found, c.audited.ensures.comes, refl)

pub returns-in-Ok-Some-Mend-clause-comes : goal.returns-in-Ok-Some-Mend-clause-comes
unfolding Comes
returns-in-Ok-Some-Mend-clause-comes g c =
    let read = c.in-Ok-Some-Mend in
    (_, means_of _ _ _ _ read.field-0-is read.field-0-0-is read.ensures.found, c.mended.ensures.comes)
