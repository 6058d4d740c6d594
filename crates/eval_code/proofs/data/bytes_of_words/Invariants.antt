use Rattle.eval_code.proofs.Words.{◌≡◌, bytes_of_word, flat_map, take}
use Rattle.eval_code.proofs.data.bytes_of_words.Given as goal

abbrev pub invariant-loop-word : goal.invariant-loop-word
invariant-loop-word l = l.bytes.items ≡ flat_map bytes_of_word (take l.word-index l.words)
