use Rattle.m2v_enc_stream.proofs.SliceUnits.{Spelled}
use Rattle.m2v_law_shown.proofs.ToldAccounts.{all_safe}
use Rattle.m2v_law_shown.proofs.ToldDelays.{all_exact}
use Rattle.m2v_law_shown.proofs.stream_laws.law_account.Goals as goal

pub returns : goal.returns
returns c =
    let law : Spelled = record { calm = c.law_slice_calm.ensures; reads = c.law_slice_reads.ensures.stands; large = c.law_slice_reads.ensures.large } in
    record {
      safe = λ s frames ns passes some few told. all_safe law s frames passes some few ns told;
      delays = λ s frames ns passes some few told e a is. all_exact law s frames passes some few ns told e a is;
    }
