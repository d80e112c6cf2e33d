-- The rules as they run, picture by picture, with as little kept of a group as its display order asks for.
use Rattle.std.specs.Prelude.{ℕ, ◌+◌, ◌%◌, Bool, true, false, ◌||◌, not, nat_eq, nat_lt, if◌then◌else◌, [], ◌∷◌, ◌++◌, Option, Some, None}
use Rattle.m2v_model.specs.declared.state.Sequence.{Sequence}
use Rattle.m2v_model.specs.declared.notes.PictureNote.{PictureNote}
use Rattle.m2v_model.specs.States.{first_or, is_frame, is_b}
use Rattle.m2v_model.specs.Lawful.{sequence_breaches, horizontal_rule, vertical_rule, intra_rule, crowd_rule, repeat_rule, progressive_rule, precision_rule}
use Rattle.m2v_check.specs.declared.broken.BrokenRule.{BrokenRule}
use Rattle.m2v_check.specs.declared.coded.CodedPicture.{CodedPicture}
use Rattle.m2v_check.specs.declared.places.Unplaced.{Unplaced}
use Rattle.m2v_check.specs.declared.places.UnplacedFrame.{UnplacedFrame}
use Rattle.m2v_check.specs.declared.places.Places.{Places}
use Rattle.m2v_check.specs.declared.rules.Rules.{Rules}
use Rattle.m2v_check.specs.Breaking.{first_some, found, numbered_of}

-- ---- places

-- the rule on temporal_reference, for a picture of a frame at a place
abbrev pub reference_breach : ℕ → ℕ → ℕ → Option BrokenRule
reference_breach number reference place =
    if nat_eq reference (place % 1024) then None
    else Some (record { rule = 11; picture = number; have = reference; need = place % 1024 })

abbrev pub breach_at : Unplaced → ℕ → Option BrokenRule
breach_at p place = first_some p.before (first_some (reference_breach p.number p.reference place) p.behind)

abbrev pub field_breach : Option Unplaced → ℕ → Option BrokenRule
field_breach None place = None
field_breach (Some p) place = breach_at p place

abbrev pub frame_breach : UnplacedFrame → ℕ → Option BrokenRule
frame_breach f place = first_some (field_breach f.first place) (breach_at f.last place)

abbrev pub anchor_breach : Option UnplacedFrame → ℕ → Option BrokenRule
anchor_breach None place = None
anchor_breach (Some f) place = frame_breach f place

abbrev pub some_waits : Option UnplacedFrame → ℕ
some_waits None = 0
some_waits (Some f) = 1

abbrev pub waiting_in : Places → ℕ
waiting_in o = some_waits o.anchor

-- the first rule that is broken, where the group ends here
abbrev pub all_broken : Places → Option BrokenRule
all_broken o = first_some o.settled (first_some (anchor_breach o.anchor o.shown) (first_some o.later (field_breach o.begun (o.shown + waiting_in o))))

abbrev pub no_places : Places
no_places = record { low_delay = false; shown = 0; begun = None; anchor = None; settled = None; later = None }

abbrev pub with_low_delay : Places → Bool → Places
with_low_delay o low_delay = record o { low_delay = low_delay }

abbrev pub with_field : Places → Unplaced → Places
with_field o p = record o { begun = Some p }

-- a frame is shown at once, or an anchor waits until the next one comes
abbrev pub with_frame : Places → Unplaced → Bool → Places
with_frame o p b =
    let f : UnplacedFrame = record { first = o.begun; last = p } in
    if o.low_delay || b then record o { begun = None; later = first_some o.later (frame_breach f o.shown); shown = o.shown + 1 }
    else record o {
      begun = None;
      settled = first_some o.settled (first_some (anchor_breach o.anchor o.shown) o.later);
      shown = o.shown + waiting_in o;
      anchor = Some f;
      later = None;
    }

abbrev pub group_closed : Places → Places
group_closed o = record o { shown = 0; begun = None; anchor = None; settled = all_broken o; later = None }

-- ---- rules

-- of two breaches of sequence headers that of the lesser rule, of one rule the first
abbrev pub lesser : Option BrokenRule → Option BrokenRule → Option BrokenRule
lesser None b = b
lesser (Some a) None = Some a
lesser (Some a) (Some b) = if nat_lt b.rule a.rule then Some b else Some a

abbrev pub no_rules : Rules
no_rules = record { first = None; sequence = None; first_in_group = false; pictures = 0; constant = true; headers = None; places = no_places }

abbrev pub low_delay_with : Option Sequence → Sequence → Bool → Bool
low_delay_with None s low_delay = s.extension.low_delay
low_delay_with (Some first) s low_delay = low_delay

abbrev pub with_sequence : Rules → Sequence → Rules
with_sequence r s = record r {
  first = Some (first_or r.first s);
  sequence = Some s;
  headers = lesser r.headers (found (sequence_breaches (s ∷ [])));
  places = record r.places { low_delay = low_delay_with r.first s r.places.low_delay };
}

abbrev pub with_group : Rules → Rules
with_group r = record r { first_in_group = true }

-- a picture that comes next
abbrev pub coded_next : Rules → Sequence → PictureNote → CodedPicture
coded_next r s note = record { number = r.pictures; sequence = s; first_in_group = r.first_in_group; note = note }

-- whether the rate is constant, which the first picture says
abbrev pub constant_with : Rules → CodedPicture → Bool
constant_with r p = if nat_eq p.number 0 then not (nat_eq p.note.info.vbv_delay 65535) else r.constant

abbrev pub ends_frame : PictureNote → Bool
ends_frame note = is_frame note.extension || not note.first

abbrev pub unplaced_of : Bool → CodedPicture → Unplaced
unplaced_of constant p =
    let n = numbered_of p in
    record {
      number = p.number;
      reference = p.note.info.temporal_reference;
      before = found (horizontal_rule n ++ vertical_rule n ++ intra_rule n);
      behind = found (crowd_rule n ++ repeat_rule constant n ++ progressive_rule n ++ precision_rule n);
    }

abbrev pub begun_with : Bool → Places → Places
begun_with first_in_group o = if first_in_group then group_closed o else o

abbrev pub placed_with : PictureNote → Places → Unplaced → Places
placed_with note o p = if ends_frame note then with_frame o p (is_b note.info.kind) else with_field o p

abbrev pub with_picture : Rules → CodedPicture → Rules
with_picture r p = record r {
  first_in_group = false;
  pictures = r.pictures + 1;
  constant = constant_with r p;
  places = placed_with p.note (begun_with p.first_in_group r.places) (unplaced_of (constant_with r p) p);
}

-- the first rule that is broken, where the stream ends here
abbrev pub broken_in : Rules → Option BrokenRule
broken_in r = first_some r.headers (all_broken r.places)
