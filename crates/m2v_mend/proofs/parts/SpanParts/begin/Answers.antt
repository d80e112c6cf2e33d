use Rattle.std.proofs.Common.{refl}
use Rattle.std.specs.Option.{option_map}
use Rattle.m2v_decode.specs.Decoding.{whole_of}
use Rattle.m2v_mend.proofs.SpanLaws.{kept_one, span_one}
use Rattle.m2v_mend.proofs.parts.SpanParts.begin.Goals as goal

pub returns-clause-told : goal.returns-clause-told
returns-clause-told c before heads zeros =
    let m = c.args.member in
    let is = c.requires.member in
    let kept = kept_one (option_map (λ v. v.items) c.in_ok-head.head) m m.info.sequence c.head_length.result c.kept_length-own.result c.in_ok-kept.kept is.info.sequence c.head_length.ensures c.kept_length-own.ensures.value c.in_ok-kept.ensures in
    span_one _ _ m is zeros refl c.in_ok-members.ensures refl refl (c.in_ok-head.ensures before heads) refl refl (c.is_entry.ensures (whole_of m.piece) is.info) kept c.is_long-long.ensures
