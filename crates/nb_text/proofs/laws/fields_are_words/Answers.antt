use Rattle.nb_text.proofs.FieldLemmas.{data_word, key_word, labels_word, name_set_word, name_word, number_word, packet_set_word}
use Rattle.nb_text.proofs.laws.fields_are_words.Goals as goal

pub returns : goal.returns
returns c = record {
  names = name_word;
  labels = labels_word;
  bytes = data_word;
  keys = λ key is bytes. key_word key;
  numbers = number_word;
  packet_sets = packet_set_word;
  name_sets = name_set_word;
}
