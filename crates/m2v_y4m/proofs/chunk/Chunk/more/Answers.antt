use Rattle.std.proofs.Common.{◌≡◌, ◌-◌, ◌∙◌, sym, ap, arith, length, take, drop}
use Rattle.m2v_y4m.proofs.ChunkLaws.{refilled}
use Rattle.m2v_y4m.proofs.chunk.Chunk.more.Goals as goal

pub returns-clause-read : goal.returns-clause-read
returns-clause-read g c =
    let e = c.in_ok-n.ensures in
    let is : length c.read_on-answer.new.bytes ≡ c.self.inside.bytes.len = e.same ∙ c.deref_mut.ensures.len in
    rw (sym is) (refilled (c.self.inside.filled - c.self.inside.at) c.in_ok-n.n c.read_on-answer.new.bytes _ _ _ _ (omega (arith, e.within, e.same)) (e.front ∙ ap (λ l. drop c.self.inside.at (take c.self.inside.filled l)) c.deref_mut.ensures.value ∙ c.self.view_is) e.moved)
