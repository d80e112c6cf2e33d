use Rattle.m2v_enc_stream.proofs.Workers.{coded_same, recon_same}
use Rattle.m2v_enc_stream.proofs.laws.law_workers.Goals as goal

-- src/laws.rt:7:1
pub returns-clause-coded : goal.returns-clause-coded
returns-clause-coded c = λ s workers frames. coded_same workers s frames

-- src/laws.rt:7:1
pub returns-clause-recon : goal.returns-clause-recon
returns-clause-recon c = λ s workers frames. recon_same workers s frames
