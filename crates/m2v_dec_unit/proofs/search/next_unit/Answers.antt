use Rattle.std.proofs.Common.{◌+◌, ◌<◌, length, refl, arith}
use Rattle.m2v_dec_unit.proofs.Cuts.{code_found, code_absent}
use Rattle.m2v_dec_unit.proofs.search.next_unit.Goals as goal

pub returns-then-bytes-place-gt3 : goal.returns-then-bytes-place-gt3
returns-then-bytes-place-gt3 c =
    let found = c.in-Some.ensures.found in
    let long : c.in-Some.place + 3 < length c.args.bytes.now = omega arith in
    record {
      behind = found.0;
      within = omega arith;
      value = λ lt. long;
      found = λ lt z. code_found c.args.bytes.now z c.in-Some.place found.1 long;
      first = λ z k ended le lt. code_absent c.args.bytes.now z k ended (λ code more. c.in-Some.ensures.least k le lt code);
    }

pub returns-else-bytes-place-gt3 : goal.returns-else-bytes-place-gt3
returns-else-bytes-place-gt3 c =
    record {
      behind = c.requires;
      within = omega arith;
      value = λ lt. omega arith;
      found = λ lt z. absurd (omega arith);
      first = λ z k ended le lt.
          code_absent c.args.bytes.now z k ended
          (λ code more. let before : k < c.in-Some.place = omega arith in c.in-Some.ensures.least k le before code);
    }

pub returns-in-None : goal.returns-in-None
returns-in-None c =
    record {
      behind = c.requires;
      within = omega arith;
      value = λ lt. omega arith;
      found = λ lt z. absurd (omega arith);
      first = λ z k ended le lt. code_absent c.args.bytes.now z k ended (λ code more. c.in-None.ensures.none refl k le code);
    }
