mod CutLemmas
mod ChannelLemmas
mod DirectionsLemmas
