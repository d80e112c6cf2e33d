-- What follows from the outcome that came and what was told of it.
use Rattle.std.proofs.Common.{◌≡◌, inr, Option, refl, subst}
use Rattle.clap.specs.Walk.{Text}
use Rattle.m2v_tool.specs.declared.command.Command.{Command}
use Rattle.m2v_tool.specs.declared.command.Command.TheVariants as commands
use Rattle.m2v_tool.specs.declared.command.Outcome.{Outcome}
use Rattle.m2v_tool.specs.declared.command.Outcome.TheVariants.{Usage, NoMemory, Flat, Encode, Decode, Check, Audit, Mend, Make, Cut, Pack, Unpack, EncodeY4m}
use Rattle.m2v_tool.specs.EncodeWords.{Meant, words_of}
use Rattle.m2v_tool.specs.Encoding.{EncodeKeeps}
use Rattle.m2v_tool.specs.Mending.{list_named, MendKeeps}
use Rattle.m2v_tool.specs.Y4mCoding.{Y4mKeeps}
use Rattle.m2v_tool.specs.Endings.{Told}
use Rattle.m2v_tool.specs.Words.{Means, NoCommand}
use Rattle.m2v_tool.specs.Runs.{Run, RefusedBy, IsUntouched, work_of}
use Rattle.m2v_tool.specs.Commands.{Comes, ending_of, Keeps, Kept}
use Rattle.m2v_tool.proofs.WordLaws.{one_meaning}
use Rattle.m2v_tool.proofs.EndingLaws.{refusal, memory_told}
use Rattle.m2v_tool.proofs.CodingLaws.{flat_keeps, flat_unread}
use Rattle.m2v_tool.proofs.EncodingLaws.{encode_keeps, encode_unread}
use Rattle.m2v_tool.proofs.Y4mCodingLaws.{y4m_keeps, y4m_unread}
use Rattle.m2v_tool.proofs.DecodingLaws.{decode_keeps, decode_unread}
use Rattle.m2v_tool.proofs.CheckingLaws.{check_keeps, check_unread}
use Rattle.m2v_tool.proofs.AuditingLaws.{audit_keeps, audit_unread}
use Rattle.m2v_tool.proofs.MendingLaws.{mend_keeps, mend_unread}
use Rattle.m2v_tool.proofs.MakingLaws.{make_keeps, make_unread}
use Rattle.m2v_tool.proofs.CuttingLaws.{cut_keeps, cut_unread}
use Rattle.m2v_tool.proofs.PackingLaws.{pack_keeps, pack_unread, unpack_keeps, unpack_unread}

module _ (r : Run) where
  refused_by : (o : Outcome) → Comes r.words (work_of r) o → Told (ending_of o) r.status r.report → NoCommand r.words → RefusedBy 2 r
  unfolding Comes ending_of
  refused_by Usage c t none = (refusal (ending_of Usage) r.status 2 r.report t refl refl, c.1)
  refused_by NoMemory c t none = (inr (memory_told r.status r.report t), c)
  refused_by (Flat o) c t none = absurd (none (commands.Flat c.0) c.1)
  refused_by (Encode o) c t none = absurd (none (commands.Encode c.0) c.1)
  refused_by (Decode o) c t none = absurd (none (commands.Decode c.0) c.1)
  refused_by (Check o) c t none = absurd (none commands.Check c.0)
  refused_by (Audit o) c t none = absurd (none (commands.Audit c.0) c.1)
  refused_by (Mend o) c t none = absurd (none (commands.Mend c.0) c.1)
  refused_by (Make o) c t none = absurd (none (commands.Make c.0) c.1)
  refused_by (Cut o) c t none = absurd (none (commands.Cut c.0) c.1)
  refused_by (Pack o) c t none = absurd (none (commands.Pack c.0) c.1)
  refused_by (Unpack o) c t none = absurd (none commands.Unpack c.0)
  refused_by (EncodeY4m o) c t none = absurd (none (commands.EncodeY4m c.0) c.1)

  -- where memory ran out before the words were read
  unread_by : IsUntouched (work_of r) → r.status ≡ 12 → (c : Command) → Keeps c r
  unread_by untouched is (commands.Flat w) = flat_unread r w untouched is
  unread_by untouched is (commands.Encode w) = encode_unread r (words_of w) untouched is
  unread_by untouched is (commands.Decode workers) = decode_unread r workers untouched is
  unread_by untouched is commands.Check = check_unread r is
  unread_by untouched is (commands.Audit w) = audit_unread r w untouched is
  unread_by untouched is (commands.Mend w) = mend_unread r (list_named w) is
  unread_by untouched is (commands.Make seed) = make_unread r seed is
  unread_by untouched is (commands.Cut w) = cut_unread r w untouched is
  unread_by untouched is (commands.Pack h) = pack_unread r h untouched is
  unread_by untouched is commands.Unpack = unpack_unread r is
  unread_by untouched is (commands.EncodeY4m w) = y4m_unread r (words_of w) untouched is

  -- the words mean the command whose outcome came, and no other one
  same_keeps : (c d : Command) → Means r.words c → Means r.words d → Keeps c r → Keeps d r
  same_keeps c d means others keeps =
      one_meaning (λ (x : Command). Keeps x r) (λ v w same k. subst (λ (m : Meant). EncodeKeeps m r) same k)
      (λ v w same k. subst (λ (name : Option Text). MendKeeps name r) same k) (λ v w same k. subst (λ (m : Meant). Y4mKeeps m r) same k) r.words c d means others keeps

  keeps_by : (o : Outcome) → Comes r.words (work_of r) o → Told (ending_of o) r.status r.report → (d : Command) → Means r.words d → Keeps d r
  unfolding Comes ending_of
  keeps_by Usage c t d means = absurd (c.0 d means)
  keeps_by NoMemory c t d means = unread_by c (memory_told r.status r.report t) d
  keeps_by (Flat o) c t d means = same_keeps (commands.Flat c.0) d c.1 means (flat_keeps r c.0 o c.2 t c.3)
  keeps_by (Encode o) c t d means = same_keeps (commands.Encode c.0) d c.1 means (encode_keeps r (words_of c.0) o c.2 t)
  keeps_by (Decode o) c t d means = same_keeps (commands.Decode c.0) d c.1 means (decode_keeps r c.0 o c.2 t c.3)
  keeps_by (Check o) c t d means = same_keeps commands.Check d c.0 means (check_keeps r o c.1 t)
  keeps_by (Audit o) c t d means = same_keeps (commands.Audit c.0) d c.1 means (audit_keeps r c.0 o c.2 t)
  keeps_by (Mend o) c t d means = same_keeps (commands.Mend c.0) d c.1 means (mend_keeps r (list_named c.0) o c.2 t)
  keeps_by (Make o) c t d means = same_keeps (commands.Make c.0) d c.1 means (make_keeps r c.0 o c.2 t)
  keeps_by (Cut o) c t d means = same_keeps (commands.Cut c.0) d c.1 means (cut_keeps r c.0 o c.2 t c.3)
  keeps_by (Pack o) c t d means = same_keeps (commands.Pack c.0) d c.1 means (pack_keeps r c.0 o c.2 t c.3)
  keeps_by (Unpack o) c t d means = same_keeps commands.Unpack d c.0 means (unpack_keeps r o c.1 t)
  keeps_by (EncodeY4m o) c t d means = same_keeps (commands.EncodeY4m c.0) d c.1 means (y4m_keeps r (words_of c.0) o c.2 t)

pub kept_by : (r : Run) (o : Outcome) → Comes r.words (work_of r) o → Told (ending_of o) r.status r.report → Kept r
kept_by r o comes t = record {
  ran = record { outcome = o; comes = comes; told = t };
  refused = refused_by r o comes t;
  command = keeps_by r o comes t;
}
