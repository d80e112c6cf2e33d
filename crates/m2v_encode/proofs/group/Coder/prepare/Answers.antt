use Rattle.std.proofs.Common.{◌∙◌, length, sym, ap, subst, arith}
use Rattle.std.specs.Prelude.{All}
use Rattle.m2v_set.specs.declared.settings.Settings.{Settings}
use Rattle.m2v_set.specs.Numbers.{rows_by}
use Rattle.m2v_order.specs.Times.{intervals_of}
use Rattle.m2v_order.specs.Whole.{handed}
use Rattle.m2v_rate.specs.Sharing.{IsPictureActivity}
use Rattle.m2v_rate.specs.Plans.{Entries}
use Rattle.m2v_slice.specs.Conditions.{IsBegunFor}
use Rattle.m2v_encode.specs.declared.group.Coder.{Coder}
use Rattle.m2v_slice.proofs.Begun.{begun_for}
use Rattle.m2v_slice.proofs.Activities.{length-picture_activities}
use Rattle.m2v_encode.proofs.Books.{same_book, begun_is, done_is}
use Rattle.m2v_encode.proofs.group.Coder.prepare.Goals as goal

pub begin_group-requires-clause-active : goal.begin_group-requires-clause-active
begin_group-requires-clause-active c =
    let pics = c.deref-2.ensures.value ∙ c.in_ok-pictures.ensures.value ∙ c.deref.ensures.value in
    ap length (c.deref-3.ensures.value ∙ c.requires.group.pictures)
    ∙ length-picture_activities c.args.self.now.settings c.args.group.group.frames.items c.args.group.group.pictures.items ∙ sym (ap length pics)

pub begin_group-requires-clause-activities : goal.begin_group-requires-clause-activities
begin_group-requires-clause-activities c = λ even. subst (All IsPictureActivity) (sym c.deref-3.ensures.value) (c.requires.group.sums even)

pub for_group-requires-clause-ledger : goal.for_group-requires-clause-ledger
for_group-requires-clause-ledger c =
    let b0 = c.args.self.now in
    let rest = c.begin_group.ensures.rest in
    let settings = ap (λ (x : Coder). x.settings) rest in
    let pics = c.deref-2.ensures.value ∙ c.in_ok-pictures.ensures.value ∙ c.deref.ensures.value in
    let sums = c.deref-3.ensures.value ∙ c.requires.group.pictures in
    let ledger = begun_is b0.settings b0.ledger c.begin_group.new.self.ledger c.args.group.group.frames.items c.args.group.group.before c.deref-2.result.now c.args.group.group.pictures.items c.deref-3.result.now pics sums c.in_ok-times.ensures.begun in
    let going = c.requires.going in
    subst (λ (s : Settings). IsBegunFor s (handed c.args.group.group) c.begin_group.new.self.ledger) (sym settings)
    (begun_for b0.settings (handed c.args.group.group) b0.ledger c.begin_group.new.self.ledger going.settings going.steady.begun
    (omega (arith, going.removals, c.requires.few.pictures)) c.requires.group.group.pictures ledger)

pub returns-clause-ready : goal.returns-clause-ready
returns-clause-ready c =
    let b0 = c.args.self.now in
    let rest = c.begin_group.ensures.rest in
    let settings = ap (λ (x : Coder). x.settings) rest in
    let pics = c.deref-2.ensures.value ∙ c.in_ok-pictures.ensures.value ∙ c.deref.ensures.value in
    let sums = c.deref-3.ensures.value ∙ c.requires.group.pictures in
    let ledger = begun_is b0.settings b0.ledger c.begin_group.new.self.ledger c.args.group.group.frames.items c.args.group.group.before c.deref-2.result.now c.args.group.group.pictures.items c.deref-3.result.now pics sums c.in_ok-times.ensures.begun in
    record {
      told = done_is c.in_ok-book.book c.begin_group.new.self.settings c.args.group.group.frames.items c.args.group.group.pictures.items c.take-before.result c.begin_group.new.self.ledger
          c.in_ok-pictures.pictures.items c.len-frames.result c.rows_of-rows.result c.in_ok-times.times.items c.in_ok-book.ensures.value
          c.in_ok-book.ensures.book c.in_ok-book.ensures.jobs
          (c.in_ok-pictures.ensures.value ∙ c.deref.ensures.value)
          (omega (arith, c.len-frames.ensures, c.args.group.group.frames.ok.0))
          (c.rows_of-rows.ensures.value ∙ ap (λ (s : Settings). rows_by s.scan s.height) (sym settings))
          (c.in_ok-times.ensures.times ∙ ap (intervals_of b0.settings c.args.group.group.before) pics ∙ sym (ap (λ (l : Entries). l.intervals) ledger))
          c.requires.group.early;
      bench = c.in_ok-bench.ensures.bench;
    }

pub returns-clause-value : goal.returns-clause-value
returns-clause-value c =
    let b0 = c.args.self.now in
    let rest = c.begin_group.ensures.rest in
    let settings = ap (λ (x : Coder). x.settings) rest in
    let pics = c.deref-2.ensures.value ∙ c.in_ok-pictures.ensures.value ∙ c.deref.ensures.value in
    let sums = c.deref-3.ensures.value ∙ c.requires.group.pictures in
    let ledger = begun_is b0.settings b0.ledger c.begin_group.new.self.ledger c.args.group.group.frames.items c.args.group.group.before c.deref-2.result.now c.args.group.group.pictures.items c.deref-3.result.now pics sums c.in_ok-times.ensures.begun in
    c.in_ok-book.ensures.value
    ∙ same_book c.begin_group.new.self.settings b0.settings c.args.group.group.frames.items c.args.group.group.pictures.items c.take-before.result b0.before c.begin_group.new.self.ledger _
    settings (c.take-before.ensures.value ∙ ap (λ (x : Coder). x.before) rest) ledger
