use Rattle.std.proofs.Common.{◌∙◌, ◌-◌, ◌*◌, ◌/◌, ◌≤◌, ◌++◌, ℕ, [], replicate, refl, ap, sym, arith}
use Rattle.std.proofs.lemmas.Result.{err_from_is_err_and}
use Rattle.m2v_bits.specs.Bits.{packed}
use Rattle.m2v_rate.specs.Plans.{Entries}
use Rattle.m2v_port.proofs.Runs.{grows_on}
use Rattle.m2v_slice.specs.Headers.{header_units, bits_to_code}
use Rattle.m2v_slice.specs.Books.{rows, job_at}
use Rattle.m2v_law_shown.specs.m2v_enc_stream.Streams.{zeros_of}
use Rattle.m2v_encode.specs.Groups.{slices_text}
use Rattle.m2v_encode.proofs.Puts.{put_first, put_then, grown_by}
use Rattle.m2v_encode.proofs.PictureLaws.{known_at, due_at, zeros_at, sent_small, sent_bytes, parts_of, parts_split}
use Rattle.m2v_encode.proofs.done.DoneGroup.put_picture.Goals as goal

pub account_before-account-requires : goal.account_before-account-requires
account_before-account-requires g c = record { known = known_at c.args.self.now c.args.ledger.now c.args.p (omega (arith, c.requires.picture)) c.requires.ledger }

pub zeros_behind-zeros-requires-clause-whole : goal.zeros_behind-zeros-requires-clause-whole
zeros_behind-zeros-requires-clause-whole g c = (due_at c.args.self.now c.pictures-book.ensures.book c.args.ledger.now c.args.p c.account_before-account.result c.size-size.result c.requires.picture c.requires.ledger c.account_before-account.ensures.value c.size-size.ensures.value).whole

pub zeros_behind-zeros-requires-clause-taken : goal.zeros_behind-zeros-requires-clause-taken
zeros_behind-zeros-requires-clause-taken g c = (due_at c.args.self.now c.pictures-book.ensures.book c.args.ledger.now c.args.p c.account_before-account.result c.size-size.result c.requires.picture c.requires.ledger c.account_before-account.ensures.value c.size-size.ensures.value).taken

pub put_headers-requires-clause-held : goal.put_headers-requires-clause-held
put_headers-requires-clause-held g c = (due_at c.args.self.now c.pictures-book.ensures.book c.args.ledger.now c.args.p c.account_before-account.result c.size-size.result c.requires.picture c.requires.ledger c.account_before-account.ensures.value c.size-size.ensures.value).least

pub put_headers-requires-clause-most : goal.put_headers-requires-clause-most
put_headers-requires-clause-most g c = (due_at c.args.self.now c.pictures-book.ensures.book c.args.ledger.now c.args.p c.account_before-account.result c.size-size.result c.requires.picture c.requires.ledger c.account_before-account.ensures.value c.size-size.ensures.value).most

pub returns-in_err-put_headers-clause-err : goal.returns-in_err-put_headers-clause-err
returns-in_err-put_headers-clause-err g c =
    let p = err_from_is_err_and c.from_residual.result c.from_residual.ensures.1 in
    let parts = parts_of c.args.self.now c.pictures-book.ensures.book c.args.ledger.now c.args.ends c.args.p (8 * c.args.total.now.bytes) c.account_before-account.result c.size-size.result c.zeros_behind-zeros.result c.requires.picture c.requires.ledger c.account_before-account.ensures.value c.size-size.ensures.value c.requires.place c.requires.begun c.zeros_behind-zeros.ensures.value c.zeros_behind-zeros.ensures.bytes in
    rw (p.1, p.2)
    (put_first g.K.Sink.held g.K.Sink.faults _ _ _ _ (packed (slices_text c.args.self.now c.args.p (rows c.args.self.now)) ++ replicate {A = ℕ} (c.zeros_behind-zeros.result / 8) 0) _ parts c.in_err-put_headers.ensures.put.err)

pub returns-in_err-put_slices-clause-err : goal.returns-in_err-put_slices-clause-err
returns-in_err-put_slices-clause-err g c =
    let p = err_from_is_err_and c.from_residual-in_err-put_slices.result c.from_residual-in_err-put_slices.ensures.1 in
    let parts = parts_of c.args.self.now c.pictures-book.ensures.book c.args.ledger.now c.args.ends c.args.p (8 * c.args.total.now.bytes) c.account_before-account.result c.size-size.result c.zeros_behind-zeros.result c.requires.picture c.requires.ledger c.account_before-account.ensures.value c.size-size.ensures.value c.requires.place c.requires.begun c.zeros_behind-zeros.ensures.value c.zeros_behind-zeros.ensures.bytes in
    rw (p.1, p.2)
    (put_then g.K.Sink.held g.K.Sink.faults _ _ _ _ _ _ (replicate {A = ℕ} (c.zeros_behind-zeros.result / 8) 0) _ c.put_headers.ensures.output.counts parts c.in_ok-put_headers.ensures.put.grown c.in_err-put_slices.ensures.put.err)

pub returns-in_err-put_zeros-clause-err : goal.returns-in_err-put_zeros-clause-err
returns-in_err-put_zeros-clause-err g c =
    let p = err_from_is_err_and c.from_residual-in_err-put_zeros.result c.from_residual-in_err-put_zeros.ensures.1 in
    let parts = parts_of c.args.self.now c.pictures-book.ensures.book c.args.ledger.now c.args.ends c.args.p (8 * c.args.total.now.bytes) c.account_before-account.result c.size-size.result c.zeros_behind-zeros.result c.requires.picture c.requires.ledger c.account_before-account.ensures.value c.size-size.ensures.value c.requires.place c.requires.begun c.zeros_behind-zeros.ensures.value c.zeros_behind-zeros.ensures.bytes in
    let b = c.args.self.now in
    let head = packed (header_units b.settings (job_at b c.args.p) ((c.account_before-account.result.held - 1800 * bits_to_code (job_at b c.args.p)) / (8 * b.settings.bits))) in
    let slices = packed (slices_text b c.args.p (rows b)) in
    let tail = replicate {A = ℕ} (c.zeros_behind-zeros.result / 8) 0 in
    let counts : g.K.Sink.faults c.args.output.now ≤ g.K.Sink.faults c.put_slices.new.output = omega (arith, c.put_headers.ensures.output.counts, c.put_slices.ensures.output.counts) in
    rw (p.1, p.2)
    (put_then g.K.Sink.held g.K.Sink.faults _ _ _ _ _ _ [] _ counts (parts_split _ head slices tail parts) (grows_on c.in_ok-put_headers.ensures.put.grown c.in_ok-put_slices.ensures.put.grown) c.in_err-put_zeros.ensures.put.err)

pub returns-clause-grown : goal.returns-clause-grown
returns-clause-grown g c =
    let parts = parts_of c.args.self.now c.pictures-book.ensures.book c.args.ledger.now c.args.ends c.args.p (8 * c.args.total.now.bytes) c.account_before-account.result c.size-size.result c.zeros_behind-zeros.result c.requires.picture c.requires.ledger c.account_before-account.ensures.value c.size-size.ensures.value c.requires.place c.requires.begun c.zeros_behind-zeros.ensures.value c.zeros_behind-zeros.ensures.bytes in
    grown_by _ _ _ _ (sym parts) (grows_on c.in_ok-put_headers.ensures.put.grown (grows_on c.in_ok-put_slices.ensures.put.grown c.in_ok-put_zeros.ensures.put.grown))

pub returns-clause-sent : goal.returns-clause-sent
returns-clause-sent g c =
    let zeros = c.zeros_behind-zeros.ensures.value ∙ zeros_at c.args.self.now c.pictures-book.ensures.book c.args.ledger.now c.args.ends c.args.p c.account_before-account.result c.size-size.result c.requires.picture c.requires.ledger c.account_before-account.ensures.value c.size-size.ensures.value in
    let sent = sent_bytes c.args.self.now c.pictures-book.ensures.book c.args.ledger.now c.args.ends c.args.p c.size-size.result c.zeros_behind-zeros.result c.requires.picture c.size-size.ensures.value zeros in
    record {
      frames = refl;
      pictures = refl;
      bytes = omega (arith, sent.0);
      stuffing = omega (arith, sent.1);
    }

pub returns-clause-most : goal.returns-clause-most
returns-clause-most g c =
    let zeros = c.zeros_behind-zeros.ensures.value ∙ zeros_at c.args.self.now c.pictures-book.ensures.book c.args.ledger.now c.args.ends c.args.p c.account_before-account.result c.size-size.result c.requires.picture c.requires.ledger c.account_before-account.ensures.value c.size-size.ensures.value in
    let small = sent_small c.args.self.now c.pictures-book.ensures.book c.args.ends c.args.p c.requires.picture in
    omega (arith, small, zeros, ap (λ (x : Entries). zeros_of x c.args.ends c.args.p) c.requires.ledger, c.size-size.ensures.value)
