-- `admission::last_of` meets its contract: the greatest of the finishes, or 0.
use Rattle.std.proofs.Common.{unwrap_or, ap, ◌∙◌, rules, tests}
use Rattle.std.proofs.lemmas.Iterator.{YieldsList-from_slice, YieldsList-from_map}
use Rattle.std.proofs.lemmas.Iterator.Consumers.{reduce_from_yields_List}
use Rattle.std.proofs.lemmas.List.Folds.{max_of_map}
use Rattle.admission.proofs.LastFinish.{finish_of, last_is}
use Rattle.admission.proofs.last_of.Goals as goal

pub returns : goal.returns
returns c =
    let own = c.args.own.now in
    last_is
    (c.unwrap_or.ensures
    ∙ ap
    (λ o. unwrap_or o 0)
    (reduce_from_yields_List
    _
    c.map.result
    _
    c.max.ensures.ran
    (YieldsList-from_map _ finish_of (YieldsList-from_slice own cc) c.map.ensures.closure (λ x b q k. search (rules, tests))))
    ∙ max_of_map finish_of own)
