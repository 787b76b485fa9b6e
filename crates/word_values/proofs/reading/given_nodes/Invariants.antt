use Rattle.std.proofs.Common.{◌≡◌, drop}
use Rattle.std.specs.Option.{option_map}
use Rattle.word_values.specs.Groups.{levels_of, words_of_tokens}
use Rattle.word_values.specs.Reading.{given_nodes, state_of}
use Rattle.word_values.specs.Trees.{tree_in}
use Rattle.word_values.proofs.ReadingLaws.{means}
use Rattle.word_values.proofs.reading.given_nodes.Given as goal

abbrev pub invariant-loop-token : goal.invariant-loop-token
invariant-loop-token l = means (state_of l.reader) (levels_of l.text (drop l.token-index l.tokens)) ≡ option_map given_nodes (tree_in (words_of_tokens l.text l.tokens))
