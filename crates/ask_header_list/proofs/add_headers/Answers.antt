-- `ask_header_list::add_headers` meets its contract.
use mathlib.Core.Path.{◌∙◌}
use Rattle.ask_header_list.proofs.Chain.{places_asked, start_low, front_asked, find_asked, told_asked, close_asked, headed_here, refused_here}
use Rattle.ask_header_list.proofs.add_headers.Goals as goal

pub places_of-p-requires : goal.places_of-p-requires
places_of-p-requires c = places_asked c.requires.held

pub at-out-requires : goal.at-out-requires
at-out-requires c = start_low c.requires.held c.places_of-p.ensures

pub find_depfile-place-requires : goal.find_depfile-place-requires
find_depfile-place-requires c = find_asked c.requires.held c.places_of-p.ensures c.at-out.ensures c.requires.indexed

pub copy_mentions-d-requires : goal.copy_mentions-d-requires
copy_mentions-d-requires c = front_asked c.requires.held c.places_of-p.ensures

pub mention_listed-requires : goal.mention_listed-requires
mention_listed-requires c = told_asked c.requires.held c.places_of-p.ensures c.at-out.ensures c.find_depfile-place.ensures c.copy_mentions-d.ensures c.requires.names_long c.requires.word_long c.requires.indexed

pub close_step-requires : goal.close_step-requires
close_step-requires c = close_asked c.requires.held c.places_of-p.ensures c.at-out.ensures c.find_depfile-place.ensures c.copy_mentions-d.ensures c.mention_listed.ensures.promise c.in-Some.is (c.mention_listed.auto.second ∙ c.copy_mentions-d.auto.second)

pub shape_of-names : goal.shape_of-names
shape_of-names c = c.mention_listed.auto.names

pub shape_of-index : goal.shape_of-index
shape_of-index c = c.mention_listed.auto.index

pub shape_of-second : goal.shape_of-second
shape_of-second c = c.close_step.auto.second ∙ c.mention_listed.auto.second ∙ c.copy_mentions-d.auto.second

pub shape_of-word : goal.shape_of-word
shape_of-word c = c.mention_listed.auto.word

pub returns : goal.returns
returns c = record { space = (record { long = (c.mention_listed.auto.names) }, record { long = (c.mention_listed.auto.index) }, record { long = (c.close_step.auto.second ∙ c.mention_listed.auto.second ∙ c.copy_mentions-d.auto.second) }, record { long = (c.mention_listed.auto.word) }); promise = record { agrees = λ log texts bind rd h w. headed_here w c.places_of-p.ensures c.at-out.ensures c.find_depfile-place.ensures c.copy_mentions-d.ensures c.mention_listed.ensures.promise c.in-Some.is c.close_step.ensures } }

pub shape_of-names-in_default : goal.shape_of-names-in_default
shape_of-names-in_default c = c.mention_listed.auto.names

pub shape_of-index-in_default : goal.shape_of-index-in_default
shape_of-index-in_default c = c.mention_listed.auto.index

pub shape_of-second-in_default : goal.shape_of-second-in_default
shape_of-second-in_default c = c.mention_listed.auto.second ∙ c.copy_mentions-d.auto.second

pub shape_of-word-in_default : goal.shape_of-word-in_default
shape_of-word-in_default c = c.mention_listed.auto.word

pub returns-in_default : goal.returns-in_default
returns-in_default c = record { space = (record { long = (c.mention_listed.auto.names) }, record { long = (c.mention_listed.auto.index) }, record { long = (c.mention_listed.auto.second ∙ c.copy_mentions-d.auto.second) }, record { long = (c.mention_listed.auto.word) }); promise = record { agrees = λ log texts bind rd h w. refused_here w c.places_of-p.ensures c.at-out.ensures c.find_depfile-place.ensures c.copy_mentions-d.ensures c.mention_listed.ensures.promise c.in_default.is } }
