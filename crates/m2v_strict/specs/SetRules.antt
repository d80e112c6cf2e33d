-- What a set of rules remarks of a header, beside the stricter rules that every set has.
use Rattle.std.specs.Prelude.{ℕ, Bool, [], ◌++◌, Option}
use Rattle.m2v_model.specs.declared.state.Sequence.{Sequence}
use Rattle.m2v_check.specs.declared.coded.CodedPicture.{CodedPicture}
use Rattle.m2v_strict.specs.declared.rule_set.RuleSet.{RuleSet}
use Rattle.m2v_strict.specs.declared.rule_set.RuleSet.TheVariants as sets
use Rattle.m2v_strict.specs.declared.runs.Runs.{Runs}
use Rattle.m2v_strict.specs.Remarks.{Remarks}
use Rattle.m2v_strict.specs.DvdRules.{dvd_remarks, like_warning, headed_warning, dvd_picture_remarks}
use Rattle.m2v_strict.specs.BroadcastRules.{dvb_remarks, atsc_remarks, atsc_delay_warning}

-- of a sequence header, beside that of the first sequence of all, where it is of another
unfoldable pub set_remarks : RuleSet → Option Sequence → Sequence → Remarks
set_remarks sets.Main first s = []
set_remarks sets.Dvd first s = dvd_remarks s ++ like_warning first s
set_remarks sets.Dvb first s = dvb_remarks s
set_remarks sets.Atsc first s = atsc_remarks s

-- of a group header, before which a sequence header stands behind the picture before, or doesn't
unfoldable pub set_group_remarks : RuleSet → Bool → Remarks
set_group_remarks sets.Main headed = []
set_group_remarks sets.Dvd headed = headed_warning headed
set_group_remarks sets.Dvb headed = []
set_group_remarks sets.Atsc headed = []

-- of a picture that is shown for so many fields, behind what the pictures before it come to
unfoldable pub set_picture_remarks : RuleSet → Runs → CodedPicture → ℕ → Remarks
set_picture_remarks sets.Main before p fields = []
set_picture_remarks sets.Dvd before p fields = dvd_picture_remarks before p fields
set_picture_remarks sets.Dvb before p fields = []
set_picture_remarks sets.Atsc before p fields = atsc_delay_warning p.note.info.vbv_delay
