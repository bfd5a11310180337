-- The code's calls and options are those of the rules, and the message past the end of a list is blank.
use mathlib.Core.Path.{refl, ap}
use Rattle.rules.specs.Answers.{option_of}
use Rattle.rules.specs.Laws.{CallOfSays, OptionOfSays, NoMessageBlank}

pub call_of_says : CallOfSays
call_of_says = (λ j. refl, λ n. refl, λ tick. refl)

pub option_of_says : {A : Type 0} → OptionOfSays A
option_of_says o = (λ e. ap option_of e, λ a e. ap option_of e)

pub no_message_blank : NoMessageBlank
no_message_blank = (refl, refl, refl)
