-- Between functions: a call of any kind over a timetable.
use Rattle.std.specs.Prelude.{Result}
use Rattle.rules.specs.declared.Job.{Job}
use Rattle.rules.specs.declared.Setup.{Setup}
use Rattle.rules.specs.declared.answers.Admission.{Admission}
use Rattle.rules.specs.declared.answers.Refusal.{Refusal}
use Rattle.rules.specs.Words.{State}
use Rattle.admission.specs.Submitted.{AskSubmit}
use Rattle.timetable.specs.declared.Timetable.{Timetable}
use Rattle.timetable.specs.Timetables.{TimetableOf, Goes}
use Rattle.script.specs.declared.acts.Kind.{Kind}
use Rattle.script.specs.Kinds.{call_of}

abbrev pub AskCalled : Setup → Timetable → Type 0
AskCalled s t = AskSubmit t s

abbrev pub CalledIs : Setup → Kind → Job → (old new : Timetable) → Result Admission Refusal → Type 0
CalledIs s kind j old new r = (st : State) → TimetableOf s st old → Goes s st (call_of kind j) new r
