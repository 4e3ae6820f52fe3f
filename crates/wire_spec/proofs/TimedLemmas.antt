-- The messages of several export times and domains say what they say. This file is written by tools/examples.py.
use Rattle.std.proofs.Common.{[], ◌∷◌, refl, lit≤}
use Rattle.wire_spec.specs.Content.{Says}
use Rattle.wire_spec.specs.TimedExamples.{source_at_100, source_at_100_message, destination_at_200, destination_at_200_message, next_hop_at_120, next_hop_at_120_message, data_at_150, data_at_150_message, data_at_199, data_at_199_message, data_at_200, data_at_200_message, data_at_119, data_at_119_message, data_at_99, data_at_99_message, data_at_1900, data_at_1900_message, data_at_1901, data_at_1901_message, source_at_5000, source_at_5000_message, flow_at_3200, flow_at_3200_message, other_at_3199, other_at_3199_message, other_data_at_3200, other_data_at_3200_message, in_domain_2, in_domain_2_message, in_domain_4, in_domain_4_message}

pub source_at_100_says : Says source_at_100 source_at_100_message
source_at_100_says = record {
  sets = ((0 ∷ 2 ∷ 0 ∷ 12 ∷ 1 ∷ 0 ∷ 0 ∷ 1 ∷ 0 ∷ 8 ∷ 0 ∷ 4 ∷ []) ∷ []);
  are = record { unbroken = refl; body = record { end = ([]); whole = refl; each = (record { unbroken = refl; whole = refl; body = (((1 ∷ 0 ∷ 0 ∷ 1 ∷ 0 ∷ 8 ∷ 0 ∷ 4 ∷ []) ∷ []), record { end = ([]); whole = refl; each = (record { front = lit≤ tt; unbroken = refl; whole = refl }, tt); ends = refl }) }, tt); ends = refl } };
  parts = ((((1 ∷ 0 ∷ 0 ∷ 1 ∷ 0 ∷ 8 ∷ 0 ∷ 4 ∷ []) ∷ []), record { end = ([]); whole = refl; each = (record { front = lit≤ tt; unbroken = refl; whole = refl }, tt); ends = refl }, refl), tt);
  export = refl;
  sequence = refl;
  domain = refl;
}

pub destination_at_200_says : Says destination_at_200 destination_at_200_message
destination_at_200_says = record {
  sets = ((0 ∷ 2 ∷ 0 ∷ 12 ∷ 1 ∷ 0 ∷ 0 ∷ 1 ∷ 0 ∷ 12 ∷ 0 ∷ 4 ∷ []) ∷ []);
  are = record { unbroken = refl; body = record { end = ([]); whole = refl; each = (record { unbroken = refl; whole = refl; body = (((1 ∷ 0 ∷ 0 ∷ 1 ∷ 0 ∷ 12 ∷ 0 ∷ 4 ∷ []) ∷ []), record { end = ([]); whole = refl; each = (record { front = lit≤ tt; unbroken = refl; whole = refl }, tt); ends = refl }) }, tt); ends = refl } };
  parts = ((((1 ∷ 0 ∷ 0 ∷ 1 ∷ 0 ∷ 12 ∷ 0 ∷ 4 ∷ []) ∷ []), record { end = ([]); whole = refl; each = (record { front = lit≤ tt; unbroken = refl; whole = refl }, tt); ends = refl }, refl), tt);
  export = refl;
  sequence = refl;
  domain = refl;
}

pub next_hop_at_120_says : Says next_hop_at_120 next_hop_at_120_message
next_hop_at_120_says = record {
  sets = ((0 ∷ 2 ∷ 0 ∷ 12 ∷ 1 ∷ 0 ∷ 0 ∷ 1 ∷ 0 ∷ 15 ∷ 0 ∷ 4 ∷ []) ∷ []);
  are = record { unbroken = refl; body = record { end = ([]); whole = refl; each = (record { unbroken = refl; whole = refl; body = (((1 ∷ 0 ∷ 0 ∷ 1 ∷ 0 ∷ 15 ∷ 0 ∷ 4 ∷ []) ∷ []), record { end = ([]); whole = refl; each = (record { front = lit≤ tt; unbroken = refl; whole = refl }, tt); ends = refl }) }, tt); ends = refl } };
  parts = ((((1 ∷ 0 ∷ 0 ∷ 1 ∷ 0 ∷ 15 ∷ 0 ∷ 4 ∷ []) ∷ []), record { end = ([]); whole = refl; each = (record { front = lit≤ tt; unbroken = refl; whole = refl }, tt); ends = refl }, refl), tt);
  export = refl;
  sequence = refl;
  domain = refl;
}

pub data_at_150_says : Says data_at_150 data_at_150_message
data_at_150_says = record {
  sets = ((1 ∷ 0 ∷ 0 ∷ 8 ∷ 10 ∷ 0 ∷ 0 ∷ 1 ∷ []) ∷ []);
  are = record { unbroken = refl; body = record { end = ([]); whole = refl; each = (record { unbroken = refl; whole = refl; body = tt }, tt); ends = refl } };
  parts = (refl, tt);
  export = refl;
  sequence = refl;
  domain = refl;
}

pub data_at_199_says : Says data_at_199 data_at_199_message
data_at_199_says = record {
  sets = ((1 ∷ 0 ∷ 0 ∷ 8 ∷ 10 ∷ 0 ∷ 0 ∷ 1 ∷ []) ∷ []);
  are = record { unbroken = refl; body = record { end = ([]); whole = refl; each = (record { unbroken = refl; whole = refl; body = tt }, tt); ends = refl } };
  parts = (refl, tt);
  export = refl;
  sequence = refl;
  domain = refl;
}

pub data_at_200_says : Says data_at_200 data_at_200_message
data_at_200_says = record {
  sets = ((1 ∷ 0 ∷ 0 ∷ 8 ∷ 10 ∷ 0 ∷ 0 ∷ 1 ∷ []) ∷ []);
  are = record { unbroken = refl; body = record { end = ([]); whole = refl; each = (record { unbroken = refl; whole = refl; body = tt }, tt); ends = refl } };
  parts = (refl, tt);
  export = refl;
  sequence = refl;
  domain = refl;
}

pub data_at_119_says : Says data_at_119 data_at_119_message
data_at_119_says = record {
  sets = ((1 ∷ 0 ∷ 0 ∷ 8 ∷ 10 ∷ 0 ∷ 0 ∷ 1 ∷ []) ∷ []);
  are = record { unbroken = refl; body = record { end = ([]); whole = refl; each = (record { unbroken = refl; whole = refl; body = tt }, tt); ends = refl } };
  parts = (refl, tt);
  export = refl;
  sequence = refl;
  domain = refl;
}

pub data_at_99_says : Says data_at_99 data_at_99_message
data_at_99_says = record {
  sets = ((1 ∷ 0 ∷ 0 ∷ 8 ∷ 10 ∷ 0 ∷ 0 ∷ 1 ∷ []) ∷ []);
  are = record { unbroken = refl; body = record { end = ([]); whole = refl; each = (record { unbroken = refl; whole = refl; body = tt }, tt); ends = refl } };
  parts = (refl, tt);
  export = refl;
  sequence = refl;
  domain = refl;
}

pub data_at_1900_says : Says data_at_1900 data_at_1900_message
data_at_1900_says = record {
  sets = ((1 ∷ 0 ∷ 0 ∷ 8 ∷ 10 ∷ 0 ∷ 0 ∷ 1 ∷ []) ∷ []);
  are = record { unbroken = refl; body = record { end = ([]); whole = refl; each = (record { unbroken = refl; whole = refl; body = tt }, tt); ends = refl } };
  parts = (refl, tt);
  export = refl;
  sequence = refl;
  domain = refl;
}

pub data_at_1901_says : Says data_at_1901 data_at_1901_message
data_at_1901_says = record {
  sets = ((1 ∷ 0 ∷ 0 ∷ 8 ∷ 10 ∷ 0 ∷ 0 ∷ 1 ∷ []) ∷ []);
  are = record { unbroken = refl; body = record { end = ([]); whole = refl; each = (record { unbroken = refl; whole = refl; body = tt }, tt); ends = refl } };
  parts = (refl, tt);
  export = refl;
  sequence = refl;
  domain = refl;
}

pub source_at_5000_says : Says source_at_5000 source_at_5000_message
source_at_5000_says = record {
  sets = ((0 ∷ 2 ∷ 0 ∷ 12 ∷ 1 ∷ 0 ∷ 0 ∷ 1 ∷ 0 ∷ 8 ∷ 0 ∷ 4 ∷ []) ∷ []);
  are = record { unbroken = refl; body = record { end = ([]); whole = refl; each = (record { unbroken = refl; whole = refl; body = (((1 ∷ 0 ∷ 0 ∷ 1 ∷ 0 ∷ 8 ∷ 0 ∷ 4 ∷ []) ∷ []), record { end = ([]); whole = refl; each = (record { front = lit≤ tt; unbroken = refl; whole = refl }, tt); ends = refl }) }, tt); ends = refl } };
  parts = ((((1 ∷ 0 ∷ 0 ∷ 1 ∷ 0 ∷ 8 ∷ 0 ∷ 4 ∷ []) ∷ []), record { end = ([]); whole = refl; each = (record { front = lit≤ tt; unbroken = refl; whole = refl }, tt); ends = refl }, refl), tt);
  export = refl;
  sequence = refl;
  domain = refl;
}

pub flow_at_3200_says : Says flow_at_3200 flow_at_3200_message
flow_at_3200_says = record {
  sets = ((0 ∷ 2 ∷ 0 ∷ 12 ∷ 1 ∷ 0 ∷ 0 ∷ 1 ∷ 0 ∷ 12 ∷ 0 ∷ 4 ∷ []) ∷ (1 ∷ 0 ∷ 0 ∷ 8 ∷ 10 ∷ 0 ∷ 0 ∷ 2 ∷ []) ∷ []);
  are = record { unbroken = refl; body = record { end = ([]); whole = refl; each = (record { unbroken = refl; whole = refl; body = (((1 ∷ 0 ∷ 0 ∷ 1 ∷ 0 ∷ 12 ∷ 0 ∷ 4 ∷ []) ∷ []), record { end = ([]); whole = refl; each = (record { front = lit≤ tt; unbroken = refl; whole = refl }, tt); ends = refl }) }, (record { unbroken = refl; whole = refl; body = tt }, tt)); ends = refl } };
  parts = ((((1 ∷ 0 ∷ 0 ∷ 1 ∷ 0 ∷ 12 ∷ 0 ∷ 4 ∷ []) ∷ []), record { end = ([]); whole = refl; each = (record { front = lit≤ tt; unbroken = refl; whole = refl }, tt); ends = refl }, refl), (refl, tt));
  export = refl;
  sequence = refl;
  domain = refl;
}

pub other_at_3199_says : Says other_at_3199 other_at_3199_message
other_at_3199_says = record {
  sets = ((0 ∷ 2 ∷ 0 ∷ 12 ∷ 1 ∷ 1 ∷ 0 ∷ 1 ∷ 0 ∷ 8 ∷ 0 ∷ 4 ∷ []) ∷ []);
  are = record { unbroken = refl; body = record { end = ([]); whole = refl; each = (record { unbroken = refl; whole = refl; body = (((1 ∷ 1 ∷ 0 ∷ 1 ∷ 0 ∷ 8 ∷ 0 ∷ 4 ∷ []) ∷ []), record { end = ([]); whole = refl; each = (record { front = lit≤ tt; unbroken = refl; whole = refl }, tt); ends = refl }) }, tt); ends = refl } };
  parts = ((((1 ∷ 1 ∷ 0 ∷ 1 ∷ 0 ∷ 8 ∷ 0 ∷ 4 ∷ []) ∷ []), record { end = ([]); whole = refl; each = (record { front = lit≤ tt; unbroken = refl; whole = refl }, tt); ends = refl }, refl), tt);
  export = refl;
  sequence = refl;
  domain = refl;
}

pub other_data_at_3200_says : Says other_data_at_3200 other_data_at_3200_message
other_data_at_3200_says = record {
  sets = ((1 ∷ 1 ∷ 0 ∷ 8 ∷ 10 ∷ 0 ∷ 0 ∷ 1 ∷ []) ∷ []);
  are = record { unbroken = refl; body = record { end = ([]); whole = refl; each = (record { unbroken = refl; whole = refl; body = tt }, tt); ends = refl } };
  parts = (refl, tt);
  export = refl;
  sequence = refl;
  domain = refl;
}

pub in_domain_2_says : Says in_domain_2 in_domain_2_message
in_domain_2_says = record {
  sets = ((0 ∷ 2 ∷ 0 ∷ 12 ∷ 1 ∷ 0 ∷ 0 ∷ 1 ∷ 0 ∷ 8 ∷ 0 ∷ 4 ∷ []) ∷ (1 ∷ 0 ∷ 0 ∷ 8 ∷ 10 ∷ 0 ∷ 0 ∷ 2 ∷ []) ∷ []);
  are = record { unbroken = refl; body = record { end = ([]); whole = refl; each = (record { unbroken = refl; whole = refl; body = (((1 ∷ 0 ∷ 0 ∷ 1 ∷ 0 ∷ 8 ∷ 0 ∷ 4 ∷ []) ∷ []), record { end = ([]); whole = refl; each = (record { front = lit≤ tt; unbroken = refl; whole = refl }, tt); ends = refl }) }, (record { unbroken = refl; whole = refl; body = tt }, tt)); ends = refl } };
  parts = ((((1 ∷ 0 ∷ 0 ∷ 1 ∷ 0 ∷ 8 ∷ 0 ∷ 4 ∷ []) ∷ []), record { end = ([]); whole = refl; each = (record { front = lit≤ tt; unbroken = refl; whole = refl }, tt); ends = refl }, refl), (refl, tt));
  export = refl;
  sequence = refl;
  domain = refl;
}

pub in_domain_4_says : Says in_domain_4 in_domain_4_message
in_domain_4_says = record {
  sets = ((0 ∷ 2 ∷ 0 ∷ 12 ∷ 1 ∷ 0 ∷ 0 ∷ 1 ∷ 0 ∷ 8 ∷ 0 ∷ 4 ∷ []) ∷ (1 ∷ 0 ∷ 0 ∷ 8 ∷ 10 ∷ 0 ∷ 0 ∷ 4 ∷ []) ∷ []);
  are = record { unbroken = refl; body = record { end = ([]); whole = refl; each = (record { unbroken = refl; whole = refl; body = (((1 ∷ 0 ∷ 0 ∷ 1 ∷ 0 ∷ 8 ∷ 0 ∷ 4 ∷ []) ∷ []), record { end = ([]); whole = refl; each = (record { front = lit≤ tt; unbroken = refl; whole = refl }, tt); ends = refl }) }, (record { unbroken = refl; whole = refl; body = tt }, tt)); ends = refl } };
  parts = ((((1 ∷ 0 ∷ 0 ∷ 1 ∷ 0 ∷ 8 ∷ 0 ∷ 4 ∷ []) ∷ []), record { end = ([]); whole = refl; each = (record { front = lit≤ tt; unbroken = refl; whole = refl }, tt); ends = refl }, refl), (refl, tt));
  export = refl;
  sequence = refl;
  domain = refl;
}
