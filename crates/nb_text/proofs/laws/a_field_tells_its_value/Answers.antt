use Rattle.nb_text.proofs.FieldTells.{data_same, key_same, name_same}
use Rattle.nb_text.proofs.LabelTells.{labels_same}
use Rattle.nb_text.proofs.laws.a_field_tells_its_value.Goals as goal

pub returns : goal.returns
returns c = record {
  names = name_same;
  labels = λ labels others a b p q e. labels_same labels others (a, b) (p, q) e;
  bytes = data_same;
  keys = λ key other a b p q e. key_same key other (a, b) (p, q) e;
}
