use Rattle.aprs_history.proofs.WantingLemmas.{duplicates_are_shown, links_want_what_is_for_them, texts_have_what_links_want}
use Rattle.aprs_history.proofs.laws.texts_have_what_links_want.Goals as goal

pub returns-clause-texts : goal.returns-clause-texts
returns-clause-texts c = texts_have_what_links_want

pub returns-clause-wanted : goal.returns-clause-wanted
returns-clause-wanted c = links_want_what_is_for_them

pub returns-clause-shown : goal.returns-clause-shown
returns-clause-shown c = duplicates_are_shown
