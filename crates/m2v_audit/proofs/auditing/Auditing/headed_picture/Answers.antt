use Rattle.std.proofs.Common.{◌≡◌, ℕ, Option, Some, Result, Ok, Err, OnOk, sym, ap, ◌∙◌}
use Rattle.m2v_model.specs.declared.state.Sequence.{Sequence}
use Rattle.m2v_model.specs.declared.notes.PictureNote.{PictureNote}
use Rattle.m2v_strict.specs.m2v_check.declared.coded.CodedPicture.{CodedPicture}
use Rattle.m2v_audit.specs.Auditing.{Auditing, coded, with_coded, with_note}
use Rattle.m2v_audit.proofs.auditing.Auditing.headed_picture.Goals as goal

-- the picture that comes behind the sequence header that is in force
noted : {E : Type 0} (result : Result (Unit {0}) E) (a new : Auditing) (o : Option Sequence) (s : Sequence) (n : PictureNote) (p : CodedPicture) (place bytes ending : ℕ) → o ≡ Some s → p ≡ coded a s n
    → OnOk result (new ≡ with_coded a p place bytes ending) → OnOk result (new ≡ with_note a o (Some n) place bytes ending)
noted (Ok done) a new o s n p place bytes ending is e told =
    told ∙ ap (λ (q : CodedPicture). with_coded a q place bytes ending) e ∙ ap (λ (x : Option Sequence). with_note a x (Some n) place bytes ending) (sym is)
noted (Err x) a new o s n p place bytes ending is e told = tt

pub returns-in-Some-clause-value : goal.returns-in-Some-clause-value
returns-in-Some-clause-value c =
    noted c.picture.result c.args.self.now c.picture.new.self c.args.self.now.sequence c.in-Some.s c.args.n.now c.coded-p.result c.args.place c.args.bytes c.args.zeros c.in-Some.is c.coded-p.ensures c.picture.ensures.value
