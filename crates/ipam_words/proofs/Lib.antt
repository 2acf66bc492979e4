mod AddressLemmas
mod NumberLemmas
mod SlashLemmas
mod WordLemmas
mod GivenLemmas
