pub mod Proposal
