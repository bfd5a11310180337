-- `screening::messages::bad_messages` meets its contract: a message out of range, or two that do not ascend.
use mathlib.Core.Path.{◌∙◌}
use Rattle.std.proofs.Common.{rules}
use Rattle.std.proofs.lemmas.Iterator.{YieldsList-from_slice}
use Rattle.std.proofs.lemmas.Iterator.Search.{any_from_yields_List}
use Rattle.std.proofs.lemmas.List.Sorted.{answers_always}
use Rattle.rules.specs.Words.{messages_of}
use Rattle.rules.specs.Refusals.{message_out_of_range}
use Rattle.screening.proofs.Ascending.{before, ascending_is, one_outside, none_outside}
use Rattle.screening.proofs.messages.bad_messages.Goals as goal

pub returns-then-any : goal.returns-then-any
returns-then-any c =
    let j = c.args.job.now in
    one_outside
    j
    (any_from_yields_List
    (message_out_of_range j)
    _
    _
    c.any.result
    c.any.ensures.ran
    (YieldsList-from_slice _ (c.iter.ensures.rest ∙ c.messages-messages.ensures))
    (λ x b q k. search rules))
    c.if-any.true

pub returns-else-any : goal.returns-else-any
returns-else-any c =
    let j = c.args.job.now in
    none_outside
    j
    (any_from_yields_List
    (message_out_of_range j)
    _
    _
    c.any.result
    c.any.ensures.ran
    (YieldsList-from_slice _ (c.iter.ensures.rest ∙ c.messages-messages.ensures))
    (λ x b q k. search rules))
    c.if-any.false
    (ascending_is (messages_of j) _ (rw c.messages-messages.ensures at (c.is_sorted_by.ensures.cases before (answers_always _ _ _ (λ f a r g h. search rules)))))
