-- Between functions: a search beside a second timeline.
use Rattle.std.specs.Prelude.{◌≡◌, List, ◌++◌, ℕ, ◌≤◌}
use Rattle.rules.specs.Words.{Resource, Hold}
use Rattle.rules.specs.Codes.{resource_number}
use Rattle.rules.specs.Placing.{spans_on, least_free}
use Rattle.timeline.specs.declared.line.Sought.{Sought}
use Rattle.timeline.specs.Spans.{Spans}
use Rattle.timeline.specs.Timeline.{Known, tick_limit, longest_sought}
use Rattle.timeline.specs.Lines.{DrawnOn}

-- some holds are drawn in each, and the number is that of some resource
pub record AskBeside (t other : Spans) (sought : Sought) : Type 0 where
  pub held : List Hold
  pub drawn : DrawnOn held t
  pub beside : List Hold
  pub drawn_beside : DrawnOn beside other
  pub on : Resource
  pub known : Known on
  pub code_is : resource_number on ≡ sought.resource
  pub from_at_most : sought.from ≤ tick_limit
  pub some : 1 ≤ sought.len
  pub len_at_most : sought.len ≤ longest_sought

-- whatever holds are drawn so, and whatever resource has the number
pub record BesideIs (t other : Spans) (sought : Sought) (r : ℕ) : Type 0 where
  pub is :
      (held beside : List Hold) (on : Resource) → DrawnOn held t → DrawnOn beside other → Known on → resource_number on ≡ sought.resource →
      r ≡ least_free sought.from sought.len (spans_on on (held ++ beside))
