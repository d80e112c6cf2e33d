use Rattle.std.proofs.Common.{◌++◌, ◌∙◌, ap, sym, arith, length, List, ℕ}
use Rattle.std.specs.List.{range_with_len}
use Rattle.std.proofs.lemmas.List.FromFn.{length-range_with_len}
use Rattle.m2v_dec_batch.specs.Batches.{headers}
use Rattle.m2v_dec_batch.proofs.Needs.{forward_exists, other_exists, needs_are}
use Rattle.m2v_dec_batch.proofs.book.DecodeBook.needs_of_job.Goals as goal

pub jobs_at-requires : goal.jobs_at-requires
jobs_at-requires c = record { picture = forward_exists (headers c.args.self.now) c.picture_of_job.result c.reads-reads.result c.picture_of_job.ensures.picture c.reads-reads.ensures.value }

pub jobs_at-requires-2 : goal.jobs_at-requires-2
jobs_at-requires-2 c = record { picture = other_exists (headers c.args.self.now) c.picture_of_job.result c.reads-reads.result c.picture_of_job.ensures.picture c.reads-reads.ensures.value }

pub push_range-requires-2-clause-room : goal.push_range-requires-2-clause-room
push_range-requires-2-clause-room c =
    let one = c.push_range.ensures.written ∙ ap (λ (xs : List ℕ). xs ++ range_with_len c.jobs_at.result.from c.jobs_at.result.count) c.requires.blank in
    omega (arith, ap (λ (xs : List ℕ). length xs) one, length-range_with_len c.jobs_at.result.from c.jobs_at.result.count, c.jobs_at.ensures.few, c.jobs_at-2.ensures.few)

pub returns : goal.returns
returns c =
    let hs = headers c.args.self.now in
    let are = needs_are hs c.args.j c.picture_of_job.result c.reads-reads.result c.jobs_at.result.from c.jobs_at.result.count c.jobs_at-2.result.from c.jobs_at-2.result.count
    c.picture_of_job.ensures.value c.reads-reads.ensures.value c.jobs_at.ensures.jobs c.jobs_at-2.ensures.jobs in
    let one = c.push_range.ensures.written ∙ ap (λ (xs : List ℕ). xs ++ range_with_len c.jobs_at.result.from c.jobs_at.result.count) c.requires.blank in
    record { written = c.push_range-2.ensures.written ∙ ap (λ (xs : List ℕ). xs ++ range_with_len c.jobs_at-2.result.from c.jobs_at-2.result.count) one ∙ sym are }
